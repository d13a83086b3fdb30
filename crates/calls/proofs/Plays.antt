-- One more call of a list, and lists one after another. Assumes nothing.
use Rattle.std.proofs.Common.{◌≡◌, ℕ, ◌+◌, ◌<◌, List, [], ◌∷◌, ◌++◌, length, get_or, take, drop, set, sym, refl, ap, ◌∙◌, subst, append_assoc, arith, length-take-le}
use lib.ListN.{length-map}
use Rattle.std.proofs.lemmas.List.{take_more, drop_more, map-append, set_at}
use Rattle.host.specs.Meaning.{Meaning}
use Rattle.calls.specs.declared.call.Call.{Call}
use Rattle.calls.specs.Called.{World, Answered, Called}
use Rattle.calls.specs.History.{Entry}
use Rattle.calls.specs.Played.{Served, Played, CarriesOn, Wrote}
use Rattle.calls.proofs.Starts.{join}

pub carries-on : CarriesOn
carries-on calls answers before after p start earlier h = join earlier p.entries start before.area after.area h p.leads

served-more : (es : List Entry) (e : Entry) (m k last : Meaning) → Served m es k → e.found ≡ k → last ≡ e.left → Served m (es ++ e ∷ []) last
served-more [] e m k last h f l = (f ∙ h, l)
served-more (d ∷ es) e m k last h f l = (h.0, served-more es e d.left k last h.1 f l)

-- none, and one more
pub played-none : (w : World) → Played [] [] w w
played-none w = record { entries = []; these = refl; told = refl; leads = refl; served = refl }

pub played-more : (calls : List Call) (answers : List Answered) (before here after : World) (c : Call) (a : Answered) → Played calls answers before here → Called c here a after → Played (calls ++ c ∷ []) (answers ++ a ∷ []) before after
played-more calls answers before here after c a p h =
    let e : Entry = record { call = c; found = here.meaning; answer = a; left = after.meaning } in
    record {
      entries = p.entries ++ e ∷ [];
      these = map-append (λ (x : Entry). x.call) p.entries (e ∷ []) ∙ ap (λ l. l ++ c ∷ []) p.these;
      told = map-append (λ (x : Entry). x.answer) p.entries (e ∷ []) ∙ ap (λ l. l ++ a ∷ []) p.told;
      leads = join p.entries (e ∷ []) before.area here.area after.area p.leads (after.area, h, refl);
      served = served-more p.entries e before.meaning here.meaning after.meaning p.served refl refl;
    }

-- as many answers as calls
played-length : (calls : List Call) (answers : List Answered) (before after : World) → Played calls answers before after → length answers ≡ length calls
played-length calls answers before after p =
    sym (ap length p.told) ∙ length-map p.entries (λ (x : Entry). x.answer) ∙ sym (length-map p.entries (λ (x : Entry). x.call)) ∙ ap length p.these

pub wrote_none : (calls : List Call) (w : World) (old : List Answered) → Wrote calls 0 w w old old
wrote_none calls w old = record { so_far = []; played = played-none w; written = refl }

pub wrote-more : (calls : List Call) (k : ℕ) (d : Call) (before here after : World) (old answers : List Answered) (a : Answered) → k < length calls → k < length old → Wrote calls k before here old answers → Called (get_or calls k d) here a after → Wrote calls (k + 1) before after old (set answers k a)
wrote-more calls k d before here after old answers a h o w c =
    let long : length w.so_far ≡ k = played-length (take k calls) w.so_far before here w.played ∙ length-take-le k calls (omega arith) in
    record {
      so_far = w.so_far ++ a ∷ [];
      played = subst (λ l. Played l (w.so_far ++ a ∷ []) before after) (sym (take_more calls k d h)) (played-more (take k calls) w.so_far before here after (get_or calls k d) a w.played c);
      written =
          ap (λ l. set l k a) (w.written ∙ ap (λ l. w.so_far ++ l) (drop_more old k a o))
          ∙ set_at w.so_far (get_or old k a) (drop (k + 1) old) a k long
          ∙ sym (append_assoc w.so_far (a ∷ []) (drop (k + 1) old));
    }

-- all that were to be played
pub all-wrote : (calls : List Call) (k n : ℕ) (before after : World) (old answers : List Answered) → k ≡ n → Wrote calls k before after old answers → Wrote calls n before after old answers
all-wrote calls k n before after old answers e w = subst (λ j. Wrote calls j before after old answers) e w
