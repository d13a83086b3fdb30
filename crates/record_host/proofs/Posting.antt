-- Writing a sum into an account's place is the posting that a run means.
use Rattle.std.proofs.Common.{◌≡◌, ℕ, ◌-◌, ◌<◌, Bool, List, length, get_or, set, ℤ, pos, ◌+ℤ◌, Ok, Option, get_or-set_other, get_or-set_same}
use Rattle.host.proofs.Posting as host
use Rattle.host.specs.Meaning.{posting}
use Rattle.record_host.specs.Means.{total_of}

pub posted : (amount : ℕ → Option ℤ) (flag : ℕ → Option Bool) (sums : List ℤ) (accounts lines left a : ℕ) (v : ℤ)
    → a < accounts → a < length sums → 0 < lines → left ≡ lines - 1
    → posting (record { amount = amount; flag = flag; account = total_of sums accounts; lines = lines }) a v
    ≡ Ok (record { amount = amount; flag = flag; account = total_of (set sums a (get_or sums a (pos 0) +ℤ v)) accounts; lines = left })
posted amount flag sums accounts lines left a v opened inside some one_less =
    let sum : ℤ = get_or sums a (pos 0) +ℤ v in
    host.posted (λ x. get_or sums x (pos 0)) (λ x. get_or (set sums a sum) x (pos 0)) accounts a v opened
    (get_or-set_same sums a sum (pos 0) inside) (λ x other. get_or-set_other sums a x sum (pos 0) other)
    amount flag lines left some one_less
