use Rattle.std.proofs.Common.{◌≡◌, ℕ, ◌+◌, ◌-◌, List, length, get_or, drop, take, sym, ap, ◌∙◌, arith, drop-drop, length-drop, take_all}
use Rattle.record_host.specs.Parts.{part}
use Rattle.record_host.proofs.parts.Parts.of.Goals as goal

-- what is left after the values of the amounts is as long as there are flags
rest : (words : List ℕ) (n m : ℕ) → length words ≡ 2 + (n + m) + n + m
    → drop n (drop (n + m) (take (length words - 2) (drop 2 words))) ≡ part words (2 + (n + m) + n) m
rest words n m long =
    let whole : take (length words - 2) (drop 2 words) ≡ drop 2 words = take_all _ (drop 2 words) (simp length-drop (omega arith)) in
    let there : drop n (drop (n + m) (drop 2 words)) ≡ drop (2 + (n + m) + n) words = ap (drop n) (drop-drop (n + m) 2 words) ∙ drop-drop n (2 + (n + m)) words in
    let all : take m (drop (2 + (n + m) + n) words) ≡ drop (2 + (n + m) + n) words = take_all m _ (simp length-drop (omega arith)) in
    ap (λ l. drop n (drop (n + m) l)) whole ∙ there ∙ sym all

pub returns-clause-flag_values : goal.returns-clause-flag_values
returns-clause-flag_values c =
    let left = rest c.args.words.now (get_or c.args.words.now 0 0) (get_or c.args.words.now 1 0) (omega arith) in
    cc
