-- Hosts that are equal in meaning serve a run alike. Assumes nothing.
use Rattle.std.proofs.Common.{◌≡◌, ℕ, zero, suc, ◌+◌, ◌-◌, ◌<◌, Bool, true, false, cond, eqb, ltb, List, [], ◌∷◌, length, ℤ, pos, negsuc, ◌+ℤ◌, Some, None, Ok, Err, Option, Result, refl, ap, subst}
use Rattle.std.proofs.lemmas.Bool.{ltb-true}
use Rattle.language.specs.declared.faults.Halt.{Halt}
use Rattle.language.specs.declared.faults.Halt.TheVariants.{Stopped}
use Rattle.language.specs.declared.faults.Stop.TheVariants.{NoSuchNumber, PostingRefused}
use Rattle.language.specs.declared.values.Value.{Value}
use Rattle.language.specs.declared.values.ValueType.{ValueType}
use Rattle.host.specs.Meaning.{Meaning, asked, charged, taken, into}
use Rattle.host.specs.Serves.{by_meaning, numbered, from_host, still, amount_at, flag_at, post_at}
use Rattle.image.specs.declared.instruction.Header.{Header}
use Rattle.image.specs.declared.instruction.Instruction.{Instruction}
use Rattle.image.specs.declared.instruction.Instruction.TheVariants as instructions
use Rattle.image.specs.Fetch.{fetched}
use Rattle.machine.specs.declared.cells.Cell.{Cell}
use Rattle.machine.specs.declared.cells.Cell.TheVariants as cells
use Rattle.machine.specs.declared.frames.Frame.{Frame}
use Rattle.machine.specs.Cells.{bind, number, numbers, value}
use Rattle.machine.specs.Frames.{frame}
use Rattle.machine.specs.Step.{ends_void, ends_with}
use Rattle.stack.specs.Stack.{Stack, stack, Went, next, ended, Run, run, then_run, step, carry, carry_local, holds, one, two, cell_at}
use Rattle.calls.specs.Law.{SameMeaning}

-- two steps that differ in the host alone, which is equal in meaning
pub data Alike : Result (Went Meaning) Halt → Result (Went Meaning) Halt → Type 0 where
  goes : {t : Stack} {m k : Meaning} → SameMeaning m k → Alike (Ok (next t m)) (Ok (next t k))
  ends : {v : Option Value} → Alike (Ok (ended v)) (Ok (ended v))
  halts : {h : Halt} → Alike (Err h) (Err h)

after : {A : Type 0} (x : Result A Halt) (f g : A → Result (Went Meaning) Halt) → ((a : A) → Alike (f a) (g a)) → Alike (bind x f) (bind x g)
after (Ok a) f g h = h a
after (Err e) f g h = halts

under_one : (c : List Cell) (f g : Cell → List Cell → Result (Went Meaning) Halt) → ((x : Cell) (xs : List Cell) → Alike (f x xs) (g x xs)) → Alike (one c f) (one c g)
under_one [] f g h = halts
under_one (x ∷ xs) f g h = h x xs

under-two : (c : List Cell) (f g : Cell → Cell → List Cell → Result (Went Meaning) Halt) → ((x y : Cell) (xs : List Cell) → Alike (f x y xs) (g x y xs)) → Alike (two c f) (two c g)
under-two [] f g h = halts
under-two (x ∷ []) f g h = halts
under-two (x ∷ y ∷ xs) f g h = h y x xs

-- a number is one of a field or an account
tested : (n : ℕ) (f g : Result ℕ Halt → Result (Went Meaning) Halt) → (n < 256 → Alike (f (Ok n)) (g (Ok n))) → Alike (f (Err (Stopped NoSuchNumber))) (g (Err (Stopped NoSuchNumber))) → Alike (f (numbered (pos n))) (g (numbered (pos n)))
tested n f g h e = go (ltb n 256) (ltb-true n 256)
  where
    go : (b : Bool) → (b ≡ true → n < 256) → Alike (f (cond b (Ok n) (Err (Stopped NoSuchNumber)))) (g (cond b (Ok n) (Err (Stopped NoSuchNumber))))
    go true t = h (t refl)
    go false t = e

module _ (m k : Meaning) (same : SameMeaning m k) where
  -- on from an answer
  abbrev on_with : {A : Type 0} → (A → Cell) → Stack → List Cell → Result (A × Meaning) Halt → Result (Went Meaning) Halt
  on_with to_cell t xs r = bind r (λ q. Ok (next (stack (t.counter + 1) t.base (to_cell q.0 ∷ xs)) q.1))

  answers : {A : Type 0} (to_cell : A → Cell) (t : Stack) (xs : List Cell) (x y : Option A) → x ≡ y → Alike (on_with to_cell t xs (from_host (still m (asked x)))) (on_with to_cell t xs (from_host (still k (asked y))))
  answers to_cell t xs x y e =
      subst (λ z. Alike (on_with to_cell t xs (from_host (still m (asked x)))) (on_with to_cell t xs (from_host (still k (asked z))))) e (by x)
    where
      by : (x : Option _) → Alike (on_with to_cell t xs (from_host (still m (asked x)))) (on_with to_cell t xs (from_host (still k (asked x))))
      by None = halts
      by (Some a) = goes same

  amounts : (t : Stack) (xs : List Cell) (z : ℤ) → Alike (on_with cells.Number t xs (amount_at by_meaning m (numbered z))) (on_with cells.Number t xs (amount_at by_meaning k (numbered z)))
  amounts t xs (pos n) =
      tested n (λ r. on_with cells.Number t xs (amount_at by_meaning m r)) (λ r. on_with cells.Number t xs (amount_at by_meaning k r)) (λ h. answers cells.Number t xs (m.amount n) (k.amount n) (same.amounts n h)) halts
  amounts t xs (negsuc n) = halts

  flags : (t : Stack) (xs : List Cell) (z : ℤ) → Alike (on_with cells.Truth t xs (flag_at by_meaning m (numbered z))) (on_with cells.Truth t xs (flag_at by_meaning k (numbered z)))
  flags t xs (pos n) =
      tested n (λ r. on_with cells.Truth t xs (flag_at by_meaning m r)) (λ r. on_with cells.Truth t xs (flag_at by_meaning k r)) (λ h. answers cells.Truth t xs (m.flag n) (k.flag n) (same.flags n h)) halts
  flags t xs (negsuc n) = halts

  charged-same : (account : ℕ) (v total : ℤ) → SameMeaning (charged m account v total) (charged k account v total)
  charged-same account v total = record {
    amounts = same.amounts;
    flags = same.flags;
    accounts = λ a h. ap (λ x. cond (eqb a account) (Some (total +ℤ v)) x) (same.accounts a h);
    lines = ap (λ n. n - 1) same.lines;
  }

  abbrev on_past : Stack → List Cell → Result Meaning Halt → Result (Went Meaning) Halt
  on_past t xs r = bind r (λ s. Ok (next (stack (t.counter + 1) t.base xs) s))

  takes : (t : Stack) (xs : List Cell) (account : ℕ) (v total : ℤ) → Alike (on_past t xs (from_host (taken m account v total))) (on_past t xs (from_host (taken k account v total)))
  takes t xs account v total =
      subst (λ n. Alike (on_past t xs (from_host (taken m account v total))) (on_past t xs (from_host (cond (eqb n 0) (Err PostingRefused) (Ok (charged k account v total)))))) same.lines (by (eqb m.lines 0))
    where
      by : (b : Bool) → Alike (on_past t xs (from_host (cond b (Err PostingRefused) (Ok (charged m account v total))))) (on_past t xs (from_host (cond b (Err PostingRefused) (Ok (charged k account v total)))))
      by true = halts
      by false = goes (charged-same account v total)

  postings : (t : Stack) (xs : List Cell) (account : ℕ) (v : ℤ) (x y : Option ℤ) → x ≡ y → Alike (on_past t xs (from_host (into m account v x))) (on_past t xs (from_host (into k account v y)))
  postings t xs account v x y e =
      subst (λ z. Alike (on_past t xs (from_host (into m account v x))) (on_past t xs (from_host (into k account v z)))) e (by x)
    where
      by : (x : Option ℤ) → Alike (on_past t xs (from_host (into m account v x))) (on_past t xs (from_host (into k account v x)))
      by None = halts
      by (Some total) = takes t xs account v total

  posts : (t : Stack) (xs : List Cell) (v z : ℤ) → Alike (on_past t xs (post_at by_meaning m v (numbered z))) (on_past t xs (post_at by_meaning k v (numbered z)))
  posts t xs v (pos n) =
      tested n (λ r. on_past t xs (post_at by_meaning m v r)) (λ r. on_past t xs (post_at by_meaning k v r)) (λ h. postings t xs n v (m.account n) (k.account n) (same.accounts n h)) halts
  posts t xs v (negsuc n) = halts

  carries : (limit : ℕ) (i : Instruction) (result : ValueType) (f : Frame) (t : Stack) → Alike (carry by_meaning limit i result f m t) (carry by_meaning limit i result f k t)
  carries limit (instructions.Local l) result f t = after (carry_local limit l f t) _ _ (λ t'. goes same)
  carries limit instructions.Amount result f t =
      after (holds f 1 t.cells) _ _ (λ _. under_one t.cells _ _ (λ c xs. after (number c) _ _ (λ z. amounts t xs z)))
  carries limit instructions.Flag result f t =
      after (holds f 1 t.cells) _ _ (λ _. under_one t.cells _ _ (λ c xs. after (number c) _ _ (λ z. flags t xs z)))
  carries limit instructions.Post result f t =
      after (holds f 2 t.cells) _ _ (λ _. under-two t.cells _ _ (λ a b xs. after (numbers a b) _ _ (λ p. posts t xs p.1 p.0)))
  carries limit instructions.End result f t = after (ends_void result) _ _ (λ _. ends)
  carries limit instructions.EndValue result f t =
      after (holds f 1 t.cells) _ _ (λ _. under_one t.cells _ _ (λ c xs. after (value c) _ _ (λ v. after (ends_with result v) _ _ (λ w. ends))))

step-alike : (words : List ℕ) (header : Header) (limit : ℕ) (m k : Meaning) (t : Stack) → SameMeaning m k → Alike (step by_meaning words header limit m t) (step by_meaning words header limit k t)
step-alike words header limit m k t same =
    after (fetched words header t.counter) _ _
    (λ i. after (frame (cell_at t.cells) t.base (length t.cells)) _ _ (λ f. carries m k same limit i header.result f t))

-- two runs that differ in the host alone, which is equal in meaning
pub record AlikeRuns (r q : Run Meaning) : Type 0 where
  pub outcomes : r.outcome ≡ q.outcome
  pub counts : r.steps ≡ q.steps
  pub hosts : SameMeaning r.host q.host

then-alike : (f : Meaning → Stack → Run Meaning) → ((m k : Meaning) (t : Stack) → SameMeaning m k → AlikeRuns (f m t) (f k t)) → (m k : Meaning) (t : Stack) → SameMeaning m k → (w v : Result (Went Meaning) Halt) → Alike w v → AlikeRuns (then_run w t m f) (then_run v t k f)
then-alike f ih m k t same w v (goes {t = t'} {m = m'} {k = k'} h) =
    let r = ih m' k' t' h in
    record { outcomes = r.outcomes; counts = ap (λ n. 1 + n) r.counts; hosts = r.hosts }
then-alike f ih m k t same w v ends = record { outcomes = refl; counts = refl; hosts = same }
then-alike f ih m k t same w v halts = record { outcomes = refl; counts = refl; hosts = same }

pub run-alike : (words : List ℕ) (header : Header) (limit n : ℕ) (m k : Meaning) (t : Stack) → SameMeaning m k → AlikeRuns (run by_meaning words header limit n m t) (run by_meaning words header limit n k t)
run-alike words header limit zero m k t same = record { outcomes = refl; counts = refl; hosts = same }
run-alike words header limit (suc n) m k t same =
    then-alike (run by_meaning words header limit n) (run-alike words header limit n) m k t same (step by_meaning words header limit m t) (step by_meaning words header limit k t) (step-alike words header limit m k t same)
