-- What a chain of refusals that ends in Ok tells. Assumes nothing.
use Rattle.std.proofs.Common.{◌≡◌, refl, Bool, true, false, Result, Ok, Err, ap}
use Rattle.std.specs.Result.{IsErrAnd}
use Rattle.refusal.specs.declared.Refusal.{Refusal}
use Rattle.refusal.specs.Says.{Answer, fine}
use Rattle.refusal.specs.Refuse.{refuse}

pub fine-refused : (why : Refusal) → ◌≡◌ {A = Answer} (Err why) fine → ⊥
fine-refused why e = cc

pub refused-same : (why why' : Refusal) → ◌≡◌ {A = Answer} (Err why) (Err why') → why ≡ why'
refused-same why why' e = cc

-- it passed the first test, and the rest of the chain is fine
pub refuse-fine : (t : Bool) (why : Refusal) (rest : Answer) → refuse t why rest ≡ fine → (t ≡ false) × (rest ≡ fine)
refuse-fine true why rest e = absurd (fine-refused why e)
refuse-fine false why rest e = (refl, e)

-- a `?` hands on the refusal that it met
pub passed_on : {T : Type 0} {r : Result T Refusal} {why : Refusal} → IsErrAnd r (λ x. x ≡ why) → r ≡ Err why
passed_on {r = Ok x} e = absurd e
passed_on {r = Err x} e = ap Err e
