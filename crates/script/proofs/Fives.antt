-- One more node of a table. Assumes nothing.
use Rattle.std.proofs.Common.{◌≡◌, ℕ, zero, suc, ◌+◌, ◌*◌, ◌/◌, ◌<◌, List, [], ◌∷◌, ◌++◌, length, get_or, drop, ap, ◌∙◌, arith, below_more, get_or-drop}
use lib.ListN.{get_or-append}
use Rattle.std.specs.Simd.{first_chunks}
use Rattle.std.proofs.lemmas.List.{length_push, get_or_push, get_or-take}
use Rattle.table.specs.declared.nodes.Node.{Node}
use Rattle.table.specs.Listed.{node_at, blank}
use Rattle.script.specs.Nodes.{node_from, FirstFives}

-- the node that five words write
abbrev pub node_of : List ℕ → Node
node_of five = record {
  kind = get_or five 0 0;
  sub = get_or five 1 0;
  value = get_or five 2 0;
  end = get_or five 3 0;
  place = get_or five 4 0;
}

-- the i-th of the first chunks holds what the words hold from 5 i on
chunk : (n : ℕ) (words : List ℕ) (i j : ℕ) → i < n → j < 5 → get_or (get_or (first_chunks 5 n words) i []) j 0 ≡ get_or words (5 * i + j) 0
chunk zero words i j l m = absurd (omega (arith, l))
chunk (suc n) words zero j l m = get_or-take 5 words j 0 m ∙ ap (λ k. get_or words k 0) (omega arith)
chunk (suc n) words (suc i) j l m =
    chunk n (drop 5 words) i j (omega (arith, l)) m ∙ get_or-drop 5 words (5 * i + j) 0 ∙ ap (λ k. get_or words k 0) (omega arith)

node-of : (words : List ℕ) (n i : ℕ) (fives : List (List ℕ)) → fives ≡ first_chunks 5 n words → i < n → node_of (get_or fives i []) ≡ node_from words i
node-of words n i fives is l =
    let at : (j : ℕ) → j < 5 → get_or (get_or fives i []) j 0 ≡ get_or words (5 * i + j) 0 = λ j m. ap (λ f. get_or (get_or f i []) j 0) is ∙ chunk n words i j l m in
    let here : 5 * i + 0 ≡ 5 * i = omega arith in
    λ k. record {
      kind = (at 0 (omega arith) ∙ ap (λ n. get_or words n 0) here) k;
      sub = at 1 (omega arith) k;
      value = at 2 (omega arith) k;
      end = at 3 (omega arith) k;
      place = at 4 (omega arith) k;
    }

pub fives_more : (words : List ℕ) (k : ℕ) (fives : List (List ℕ)) (nodes after : List Node) → FirstFives words k nodes → fives ≡ first_chunks 5 (length words / 5) words → length fives ≡ length words / 5 → k < length fives → after ≡ nodes ++ node_of (get_or fives k []) ∷ [] → FirstFives words (k + 1) after
fives_more words k fives nodes after h is all lies pushed =
    let e : after ≡ nodes ++ node_from words k ∷ [] = pushed ∙ ap (λ n. nodes ++ n ∷ []) (node-of words (length words / 5) k fives is (omega (arith, all, lies))) in (
      ap length e ∙ length_push nodes (node_from words k) ∙ ap (λ n. n + 1) h.0,
      below_more (λ j. node_at after j ≡ node_from words j) k
          (λ j l. ap (λ ns. node_at ns j) e ∙ get_or-append nodes (node_from words k ∷ []) blank j (omega (arith, h.0)) ∙ h.1 j l)
          (ap (λ ns. node_at ns k) e ∙ get_or_push nodes (node_from words k) blank k h.0),
    )
