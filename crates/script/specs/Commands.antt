-- What the words of a line ask for. Assumes nothing.
use Rattle.std.specs.Prelude.{◌≡◌, ℕ, Bool, true, false, cond, ◌⊎◌, List, [], ◌∷◌, ℤ, pos, Some, None, Ok, Err, vec_items, codes, Option, Result, ok_or, ◌==◌, slice_index}
use Rattle.std.specs.Str.{bytes_eq}
use Rattle.script.specs.declared.problem.Problem.{Problem}
use Rattle.script.specs.declared.problem.Problem.TheVariants.{UnknownWord, NotAvailable, MissingNumber, TooManyWords, NoMemory}
use Rattle.script.specs.declared.command.Verb.{Verb}
use Rattle.script.specs.declared.command.Verb.TheVariants as verbs
use Rattle.script.specs.declared.command.Command.{Command}
use Rattle.script.specs.declared.command.Command.TheVariants.{Area, Record, Worksheet, Amount, Flag, Bring, Begin, Continue, Clear, Image, Totals, State, Trace}
use Rattle.script.specs.declared.command.Line.{Line}
use Rattle.script.specs.Numbers.{and_then, flag_of, signed_of, word_of}
use Rattle.script.specs.Words.{words}

-- the command that a word names
abbrev pub verb_of : List ℕ → Option Verb
verb_of w =
    cond (bytes_eq w (codes "area")) (Some verbs.Area)
    (cond (bytes_eq w (codes "record")) (Some verbs.Record)
    (cond (bytes_eq w (codes "worksheet")) (Some verbs.Worksheet)
    (cond (bytes_eq w (codes "amount")) (Some verbs.Amount)
    (cond (bytes_eq w (codes "flag")) (Some verbs.Flag)
    (cond (bytes_eq w (codes "admit")) (Some verbs.Admit)
    (cond (bytes_eq w (codes "bring")) (Some verbs.Bring)
    (cond (bytes_eq w (codes "begin")) (Some verbs.Begin)
    (cond (bytes_eq w (codes "continue")) (Some verbs.Continue)
    (cond (bytes_eq w (codes "clear")) (Some verbs.Clear)
    (cond (bytes_eq w (codes "image")) (Some verbs.Image)
    (cond (bytes_eq w (codes "totals")) (Some verbs.Totals)
    (cond (bytes_eq w (codes "state")) (Some verbs.State)
    (cond (bytes_eq w (codes "trace")) (Some verbs.Trace)
    None)))))))))))))

-- something read, and the words after it
abbrev pub Read : Type 0 → Type 0
Read A = Result (A × List (List ℕ)) Problem

-- the code read this, and left these words
abbrev pub Took : {A : Type 0} → Result A Problem → List (List ℕ) → Read A → Type 0
Took (Ok a) ws s = s ≡ Ok (a, ws)
Took (Err e) ws s = s ≡ Err e

-- a word of 32 bits
abbrev pub one_word : List (List ℕ) → Read ℕ
one_word [] = Err MissingNumber
one_word (w ∷ ws) = and_then (word_of w) (λ n. Ok (n, ws))

-- a number of 32 bits with its sign
abbrev pub one_signed : List (List ℕ) → Read ℤ
one_signed [] = Err MissingNumber
one_signed (w ∷ ws) = and_then (signed_of w) (λ z. Ok (z, ws))

-- what was read goes into a command
abbrev pub into : {A : Type 0} → (A → Command) → Read A → Read Command
into f r = and_then r (λ p. Ok (f p.0, p.1))

-- two words, then what they make of the rest
abbrev pub two_words : {A : Type 0} → List (List ℕ) → (ℕ → ℕ → List (List ℕ) → Read A) → Read A
two_words ws f = and_then (one_word ws) (λ p. and_then (one_word p.1) (λ q. f p.0 q.0 q.1))

-- the number that fills an area may be left out
abbrev pub filled : ℕ → ℕ → List (List ℕ) → Read Command
filled a b [] = Ok (Area a b (pos 0), [])
filled a b (w ∷ ws) = into (Area a b) (one_signed (w ∷ ws))

-- a truth value
abbrev pub one_flag : List (List ℕ) → Read Bool
one_flag [] = Err MissingNumber
one_flag (w ∷ ws) = and_then (flag_of w) (λ t. Ok (t, ws))

-- a command with its numbers
abbrev pub head_of : Verb → List (List ℕ) → Read Command
head_of verbs.Area ws = two_words ws filled
head_of verbs.Record ws = two_words ws (λ a b rest. Ok (Record a b, rest))
head_of verbs.Worksheet ws = two_words ws (λ a b rest. Ok (Worksheet a b, rest))
head_of verbs.Amount ws = and_then (one_word ws) (λ p. into (Amount p.0) (one_signed p.1))
head_of verbs.Flag ws = and_then (one_word ws) (λ p. into (Flag p.0) (one_flag p.1))
head_of verbs.Admit ws = Err NotAvailable
head_of verbs.Bring ws = Ok (Bring, ws)
head_of verbs.Begin ws = Ok (Begin, ws)
head_of verbs.Continue ws = into Continue (one_word ws)
head_of verbs.Clear ws = Ok (Clear, ws)
head_of verbs.Image ws = Ok (Image, ws)
head_of verbs.Totals ws = Ok (Totals, ws)
head_of verbs.State ws = Ok (State, ws)
head_of verbs.Trace ws = into Trace (one_word ws)

-- all words to the line's end
unfoldable pub all_words : List (List ℕ) → Result (List ℕ) Problem
all_words [] = Ok []
all_words (w ∷ ws) = and_then (word_of w) (λ n. and_then (all_words ws) (λ ns. Ok (n ∷ ns)))

-- record and bring go on to the line's end
abbrev pub goes_on : Command → Bool
goes_on (Area a b z) = false
goes_on (Record a b) = true
goes_on (Worksheet a b) = false
goes_on (Amount f z) = false
goes_on (Flag f t) = false
goes_on Bring = true
goes_on Begin = false
goes_on (Continue n) = false
goes_on Clear = false
goes_on Image = false
goes_on Totals = false
goes_on State = false
goes_on (Trace n) = false

-- nothing more may stand on the line
abbrev pub no_more : List (List ℕ) → Result (List ℕ) Problem
no_more [] = Ok []
no_more (w ∷ ws) = Err TooManyWords

-- what follows a command's numbers
abbrev pub tail_of : Command → List (List ℕ) → Result (List ℕ) Problem
tail_of c ws = cond (goes_on c) (all_words ws) (no_more ws)

-- a command, its numbers, and what follows them
abbrev pub asked : Option Verb → List (List ℕ) → Result (Command × List ℕ) Problem
asked named ws = and_then (ok_or named UnknownWord) (λ v. and_then (head_of v ws) (λ p. and_then (tail_of p.0 p.1) (λ ns. Ok (p.0, ns))))

-- a line with no word, or whose first begins with #, asks for nothing
abbrev pub asked_by : List (List ℕ) → Result (Option (Command × List ℕ)) Problem
asked_by [] = Ok None
asked_by (w ∷ ws) = cond (slice_index w 0 == 35) (Ok None) (and_then (asked (verb_of w) ws) (λ p. Ok (Some p)))

-- what a line asks for
abbrev pub line_of : List ℕ → Result (Option (Command × List ℕ)) Problem
line_of bytes = asked_by (words bytes)

-- the code found this, or no memory
abbrev pub Found : {V : Type 0} → (V → List ℕ) → Result V Problem → Result (List ℕ) Problem → Type 0
Found items (Ok v) s = s ≡ Ok (items v)
Found items (Err e) s = (e ≡ NoMemory) ⊎ (s ≡ Err e)

abbrev pub Asked : Result Line Problem → Result (Command × List ℕ) Problem → Type 0
Asked (Ok l) s = s ≡ Ok (l.command, vec_items l.words)
Asked (Err e) s = (e ≡ NoMemory) ⊎ (s ≡ Err e)

abbrev pub Parsed : Result (Option Line) Problem → Result (Option (Command × List ℕ)) Problem → Type 0
Parsed (Ok None) s = s ≡ Ok None
Parsed (Ok (Some l)) s = s ≡ Ok (Some (l.command, vec_items l.words))
Parsed (Err e) s = (e ≡ NoMemory) ⊎ (s ≡ Err e)
