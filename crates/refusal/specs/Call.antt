-- The shape of a public call with working lists: it is checked, its room is tested once, and then it ends. Assumes nothing.
use Rattle.std.specs.Prelude.{◌≡◌, Err}
use Rattle.refusal.specs.declared.Refusal.{Refusal}
use Rattle.refusal.specs.declared.Refusal.TheVariants.{TooShort}
use Rattle.refusal.specs.Says.{Answer, fine}
use Rattle.refusal.specs.declared.Room.{Room}
use Rattle.refusal.specs.Lent.{untouched, Roomy}

-- What a call comes to: what it says, what it hands out, and how much of the working lists is made zero. `no` makes what is said of a refusal, `nothing` is
-- what a refusal hands out, `unused` is no part of the working lists and `need` the part needed of them, `checked` is what the checks before the room say, `Fits` says
-- that there is room, and `Ends` are the ways to end after that.
pub data Call {S H K : Type 0} (no : Refusal → S) (nothing : H) (unused : K) (checked : Answer) (need : K) (Fits : Type 0) (Ends : S → H → Type 0) : S → H → K → Type 0 where
  -- refused by the checks: nothing is touched
  refused : {why : Refusal} → checked ≡ Err why → Call no nothing unused checked need Fits Ends (no why) nothing unused
  -- too little room: nothing is touched
  cramped : checked ≡ fine → (Fits → ⊥) → Call no nothing unused checked need Fits Ends (no TooShort) nothing unused
  -- from there on what is needed of the working lists is made zero
  ended : {r : S} {h : H} → checked ≡ fine → Fits → Ends r h → Call no nothing unused checked need Fits Ends r h need

-- the shape with the four working lists
abbrev pub Comes : {S H : Type 0} (no : Refusal → S) (nothing : H) (checked : Answer) (need have : Room) (Ends : S → H → Type 0) → S → H → Room → Type 0
Comes refusal nothing checked need have Ends = Call refusal nothing untouched checked need (Roomy need have) Ends
