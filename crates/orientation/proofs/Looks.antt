-- What the looks that `orientation` reports are, read off its promise: those of the defined walk (orientation_signs/proofs/Whole), so one number for one list of words, whatever lists are lent; one
-- a facet of each cell on success, and never more. Assumes nothing.
use Rattle.refusal.specs.declared.Refusal.{Refusal}
use Rattle.std.specs.Prelude.{Err, Ok, Result}
use mathlib.Core.List.{List, []}
use mathlib.Core.Path.{◌≡◌, refl, sym, ◌∙◌}
use Prim.Native.Nat.{ℕ, ◌*◌, ◌≤◌}
use native.Mathlib.Nat.{mul-zero}
use lib.IntN.{ℤ}
use lib.ListN.{length}
use Rattle.refusal.specs.declared.Room.{Room}
use Rattle.refusal.specs.Lent.{lengths}
use Rattle.refusal.specs.Call.{Comes, refused, cramped, ended}
use Rattle.complex.specs.Check.{answer_of}
use Rattle.complex_facets.specs.Records.{record_need}
use Rattle.complex.specs.Cells.{cells_of}
use Rattle.complex.specs.Facets.{slots}
use Rattle.orientation_signs.specs.Looks.{looks_of}
use Rattle.orientation_signs.proofs.Most.{looks-most}
use Rattle.orientation_signs.proofs.Whole.{looks-whole}
use Rattle.orientation.specs.declared.Coherence.{Coherence}
use Rattle.orientation.specs.declared.Coherence.TheVariants.{Signs, OneSided}
use Rattle.orientation.specs.Promise.{Ends, crowded, one_sided, short, signed, Orientation}

-- n looks are reported
abbrev pub Reports : Result Coherence Refusal → ℕ → Type 0
Reports (Ok (Signs cells looks)) n = looks ≡ n
Reports (Ok (OneSided looks)) n = looks ≡ n
Reports (Err why) n = ⊥

-- of m cells: with signs one look a facet of each cell, on refusal 13 at most as many
abbrev pub Bounded : ℕ → ℕ → Result Coherence Refusal → Type 0
Bounded d m (Ok (Signs cells looks)) = (cells ≡ m) × (looks ≡ m * slots d)
Bounded d m (Ok (OneSided looks)) = looks ≤ m * slots d
Bounded d m (Err why) = Unit {0}

module _ {d : ℕ} {ws : List ℕ} {r : Result Coherence Refusal} {signs signs' : List ℤ} {keys keys' rows rows' spare spare' counts counts' : List ℕ} (p : Orientation d ws r signs signs' keys keys' rows rows' spare spare' counts counts') where
  -- the looks reported are those of the defined walk
  pub looks-are : (n : ℕ) → Reports r n → n ≡ looks_of d (cells_of d ws)
  looks-are n q = go p.comes q
    where
      go : {s : Result Coherence Refusal} {h : List ℤ} {u : Room} → Comes Err [] (answer_of d ws) (record_need (length ws)) (lengths keys rows spare counts) (Ends d (cells_of d ws) (length signs)) s h u → Reports s n → n ≡ looks_of d (cells_of d ws)
      go (refused e) k = absurd k
      go (cramped e f) k = absurd k
      go (ended e f (crowded x)) k = absurd k
      go (ended e f (one_sided x y)) k = sym k
      go (ended e f (short x σ o l)) k = absurd k
      go (ended e f (signed x σ o l)) k = sym k ∙ sym (looks-whole d (cells_of d ws) σ o x)

  -- and as many as they may be
  pub looks-bounded : Bounded d (length (cells_of d ws)) r
  looks-bounded = go p.comes
    where
      go : {s : Result Coherence Refusal} {h : List ℤ} {u : Room} → Comes Err [] (answer_of d ws) (record_need (length ws)) (lengths keys rows spare counts) (Ends d (cells_of d ws) (length signs)) s h u → Bounded d (length (cells_of d ws)) s
      go (refused e) = tt
      go (cramped e f) = tt
      go (ended e f (crowded x)) = tt
      go (ended e f (one_sided x y)) = looks-most d (cells_of d ws)
      go (ended e f (short x σ o l)) = tt
      go (ended e f (signed x σ o l)) = (refl, refl)

-- two calls on the same words report one number, whatever lists they are lent
pub looks-one : {d : ℕ} {ws : List ℕ} {r r' : Result Coherence Refusal} {signs s signs' s' : List ℤ} {keys k rows o spare p counts c keys' k' rows' o' spare' p' counts' c' : List ℕ} →
    Orientation d ws r signs s keys k rows o spare p counts c → Orientation d ws r' signs' s' keys' k' rows' o' spare' p' counts' c' → (n n' : ℕ) → Reports r n → Reports r' n' → n ≡ n'
looks-one a b n n' q q' = looks-are a n q ∙ sym (looks-are b n' q')

-- a point has no facets
pub points_none : {ws : List ℕ} {cells looks : ℕ} {signs s : List ℤ} {keys k rows o spare p counts c : List ℕ} → Orientation 0 ws (Ok (Signs cells looks)) signs s keys k rows o spare p counts c → looks ≡ 0
points_none {ws} a = (looks-bounded a).1 ∙ mul-zero (length (cells_of 0 ws))
