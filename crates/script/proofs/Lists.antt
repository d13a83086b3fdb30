-- The words of a list read one after another. Assumes nothing.
use Rattle.std.proofs.Common.{◌≡◌, ℕ, List, [], ◌∷◌, ◌++◌, Ok, Err, Result, sym, refl, ap, ◌∙◌, append_assoc, append-nil}
use Rattle.script.specs.declared.problem.Problem.{Problem}
use Rattle.script.specs.Commands.{all_words}
use Rattle.script.specs.Numbers.{and_then, word_of}

-- numbers already read stand before the others
abbrev pub before : List ℕ → Result (List ℕ) Problem → Result (List ℕ) Problem
before ns (Ok ms) = Ok (ns ++ ms)
before ns (Err e) = Err e

joined : (ns : List ℕ) (n : ℕ) (r : Result (List ℕ) Problem) → before ns (and_then r (λ ms. Ok (n ∷ ms))) ≡ before (ns ++ n ∷ []) r
joined ns n (Ok ms) = ap Ok (sym (append_assoc ns (n ∷ []) ms))
joined ns n (Err e) = refl

pub one_more : (whole : Result (List ℕ) Problem) (ns w : List ℕ) (n : ℕ) (ws vs : List (List ℕ)) → whole ≡ before ns (all_words vs) → vs ≡ w ∷ ws → Ok n ≡ word_of w → whole ≡ before (ns ++ n ∷ []) (all_words ws)
unfolding all_words
one_more whole ns w n ws vs held cut read =
    held
    ∙ ap (λ v. before ns (all_words v)) cut
    ∙ ap (λ r. before ns (and_then r (λ m. and_then (all_words ws) (λ ms. Ok (m ∷ ms))))) (sym read)
    ∙ joined ns n (all_words ws)

pub broken : (whole : Result (List ℕ) Problem) (ns w : List ℕ) (e : Problem) (ws vs : List (List ℕ)) → whole ≡ before ns (all_words vs) → vs ≡ w ∷ ws → Err e ≡ word_of w → whole ≡ Err e
unfolding all_words
broken whole ns w e ws vs held cut read =
    held
    ∙ ap (λ v. before ns (all_words v)) cut
    ∙ ap (λ r. before ns (and_then r (λ m. and_then (all_words ws) (λ ms. Ok (m ∷ ms))))) (sym read)

pub all_read : (whole : Result (List ℕ) Problem) (ns : List ℕ) (vs : List (List ℕ)) → whole ≡ before ns (all_words vs) → vs ≡ [] → whole ≡ Ok ns
unfolding all_words
all_read whole ns vs held none = held ∙ ap (λ v. before ns (all_words v)) none ∙ ap Ok (append-nil ns)
