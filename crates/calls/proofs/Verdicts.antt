-- One table has one verdict, each call one answer, and each list of calls one list of them. Assumes nothing.
use Rattle.std.proofs.Common.{◌≡◌, List, [], ◌∷◌, length, sym, refl, ap, ◌∙◌, subst, subst₂, arith}
use Rattle.host.specs.Meaning.{Meaning}
use Rattle.admission.proofs.Verdicts as admission
use Rattle.engine.specs.Calls.{Area}
use Rattle.engine.specs.Admit.{admitting, words_of}
use Rattle.calls.specs.declared.call.Call.TheVariants.{Admit, Bring, Begin, Continue, Clear}
use Rattle.calls.specs.declared.call.Answer.TheVariants.{Admitted}
use Rattle.calls.specs.Called.{World, Answered, Reply, Gives, world, replied, Called}
use Rattle.calls.specs.History.{Entry, History}
use Rattle.calls.specs.Played.{Served, calls_of, answers_of}
use Rattle.calls.specs.Law.{OneVerdict, OneReply, OnePlay}

pub one-verdict : OneVerdict
one-verdict table v u h k = admission.one-verdict table v u h k

same-given : (r q : Reply) (a b : Answered) (x y : World) → r ≡ q → Gives r a x → Gives q b y → (a ≡ b) × (x ≡ y)
same-given r q a b x y e g h = (
  g.0 ∙ ap (λ z. z.answer) e ∙ sym h.0,
  g.1 ∙ ap (λ z. z.after) e ∙ sym h.1,
)

pub one-reply : OneReply
one-reply (Admit table) w a b x y h k =
    same-given _ _ a b x y (ap (λ v. replied (Admitted (words_of v)) (admitting v w.area) w) (one-verdict table.now h.0 k.0 h.1 k.1)) h.2 k.2
one-reply (Bring words) w a b x y h k = same-given _ _ a b x y refl h k
one-reply Begin w a b x y h k = same-given _ _ a b x y refl h k
one-reply (Continue n) w a b x y h k = same-given _ _ a b x y refl h k
one-reply Clear w a b x y h k = same-given _ _ a b x y refl h k

-- two lists of the same calls, from one area and served by one host
one-list : (es fs : List Entry) (area after after' : Area) (m last last' : Meaning) → calls_of es ≡ calls_of fs → History area es after → History area fs after' → Served m es last → Served m fs last' → (answers_of es ≡ answers_of fs) × (after ≡ after') × (last ≡ last')
one-list [] [] area after after' m last last' c h k s t = (refl, h ∙ sym k, s ∙ sym t)
one-list [] (f ∷ fs) area after after' m last last' c h k s t = let z = ap length c in absurd (omega arith)
one-list (e ∷ es) [] area after after' m last last' c h k s t = let z = ap length c in absurd (omega arith)
one-list (e ∷ es) (f ∷ fs) area after after' m last last' c h k s t =
    let call : e.call ≡ f.call = cc in
    let further : calls_of es ≡ calls_of fs = cc in
    let found : e.found ≡ f.found = s.0 ∙ sym t.0 in
    let again : Called e.call (world area e.found) f.answer (world k.0 f.left) = subst₂ (λ x n. Called x (world area n) f.answer (world k.0 f.left)) (sym call) (sym found) k.1 in
    let r = one-reply e.call (world area e.found) e.answer f.answer (world h.0 e.left) (world k.0 f.left) h.1 again in
    let next : History h.0 fs after' = subst (λ a. History a fs after') (sym (ap (λ w. w.area) r.1)) k.2 in
    let serves : Served e.left fs last' = subst (λ n. Served n fs last') (sym (ap (λ w. w.meaning) r.1)) t.1 in
    let all = one-list es fs h.0 after after' e.left last last' further h.2 next s.1 serves in
    ((λ i. r.0 i ∷ all.0 i), all.1, all.2)

pub one-play : OnePlay
one-play calls w a b after after' p q =
    let r = one-list p.entries q.entries w.area after.area after'.area w.meaning after.meaning after'.meaning (p.these ∙ sym q.these) p.leads q.leads p.served q.served in
    (sym p.told ∙ r.0 ∙ q.told, λ i. record { area = r.1 i; meaning = r.2 i })
