-- A refusal, and the chain of refusals in document 01's order. Assumes nothing.
use Rattle.std.specs.Prelude.{Bool, true, false, Err}
use Rattle.refusal.specs.declared.Refusal.{Refusal}
use Rattle.refusal.specs.Says.{Answer}

-- this refusal where the test holds, and what comes after it where it does not
abbrev pub refuse : Bool → Refusal → Answer → Answer
refuse true why rest = Err why
refuse false why rest = rest
