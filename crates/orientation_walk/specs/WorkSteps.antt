-- The walk as a relation of its states: the signs g, the stack t and its height h.
-- Assumes nothing.
use Rattle.std.specs.Prelude.{ℕ, zero, suc, ◌+◌, ◌-◌, ◌*◌, ◌<◌, ◌≤◌, ◌≡◌, List, ◌++◌, length, get_or, set, replicate, drop, Bool, true, false, Option, Some, None, Result, Ok, Err}
use Rattle.orientation_walk.specs.declared.Stop.{Stop}
use Rattle.orientation_walk.specs.WorkSigns.{turned, Table, OrientedMarks, CoherentMarks}

-- how many of g's first n entries are 0
abbrev pub blank : ℕ → ℕ
blank zero = 1
blank (suc x) = 0

abbrev pub zeros : ℕ → List ℕ → ℕ
zeros zero g = 0
zeros (suc n) g = zeros n g + blank (get_or g n 0)

-- what the state has so that each step stays within the lists: the stack has room for every cell with no sign
pub record Fit (n : ℕ) (g t : List ℕ) (h : ℕ) : Type 0 where
  pub signs : n ≤ length g
  pub stack : n ≤ length t
  pub small : (c : ℕ) → c < n → get_or g c 0 ≤ 2
  pub room : h + zeros n g ≤ n
  pub cells : (i : ℕ) → i < h → get_or t i 0 < n
  pub signed : (i : ℕ) → i < h → 0 < get_or g (get_or t i 0) 0

-- a look from cell c at slot p that the walk goes on from
pub data Look (o fl : List ℕ) (c p : ℕ) (g t : List ℕ) (h : ℕ) (g' t' : List ℕ) (h' : ℕ) : Type 0 where
  edge : get_or o p 0 ≡ 4294967295 → g' ≡ g → t' ≡ t → h' ≡ h → Look o fl c p g t h g' t' h'
  fresh : (get_or o p 0 ≡ 4294967295 → ⊥) → get_or g (get_or o p 0) 0 ≡ 0 →
      g' ≡ set g (get_or o p 0) (turned (get_or fl p 0) (get_or g c 0)) → t' ≡ set t h (get_or o p 0) → h' ≡ h + 1 →
      Look o fl c p g t h g' t' h'
  fits : (get_or o p 0 ≡ 4294967295 → ⊥) → (get_or g (get_or o p 0) 0 ≡ 0 → ⊥) →
      get_or g (get_or o p 0) 0 ≡ turned (get_or fl p 0) (get_or g c 0) → g' ≡ g → t' ≡ t → h' ≡ h → Look o fl c p g t h g' t' h'

-- a look that ends the walk: the neighbour has the wrong sign
pub record Clash (o fl : List ℕ) (c p : ℕ) (g : List ℕ) : Type 0 where
  pub some : get_or o p 0 ≡ 4294967295 → ⊥
  pub signed : get_or g (get_or o p 0) 0 ≡ 0 → ⊥
  pub wrong : get_or g (get_or o p 0) 0 ≡ turned (get_or fl p 0) (get_or g c 0) → ⊥

-- looks at the first s slots of cell c
pub data Slots (k : ℕ) (o fl : List ℕ) (c : ℕ) (g t : List ℕ) (h : ℕ) : ℕ → List ℕ → List ℕ → ℕ → Type 0 where
  none_yet : Slots k o fl c g t h 0 g t h
  one_more : {s : ℕ} {g1 t1 : List ℕ} {h1 : ℕ} {g2 t2 : List ℕ} {h2 : ℕ} → Slots k o fl c g t h s g1 t1 h1 →
      Look o fl c (c * k + s) g1 t1 h1 g2 t2 h2 → Slots k o fl c g t h (s + 1) g2 t2 h2

-- cell c's slots up to the clash at s
pub record Stuck (k : ℕ) (o fl : List ℕ) (c : ℕ) (g t : List ℕ) (h : ℕ) (s : ℕ) (g' t' : List ℕ) : Type 0 where
  pub height : ℕ
  pub below : s < k
  pub slots : Slots k o fl c g t h s g' t' height
  pub clash : Clash o fl c (c * k + s) g'

-- m cells taken off the stack, the last pushed first, with looks at all their slots
pub data Drain (k : ℕ) (o fl : List ℕ) (g t : List ℕ) (h : ℕ) : ℕ → List ℕ → List ℕ → ℕ → Type 0 where
  none_yet : Drain k o fl g t h 0 g t h
  one_more : {m : ℕ} {g1 t1 : List ℕ} {h1 : ℕ} {g2 t2 : List ℕ} {h2 : ℕ} → Drain k o fl g t h m g1 t1 h1 → 0 < h1 →
      Slots k o fl (get_or t1 (h1 - 1) 0) g1 t1 (h1 - 1) k g2 t2 h2 → Drain k o fl g t h (m + 1) g2 t2 h2

-- m cells taken off whole, and the next one up to its clash at slot s
pub record Broken (k : ℕ) (o fl : List ℕ) (g t : List ℕ) (h : ℕ) (m s : ℕ) (g' t' : List ℕ) : Type 0 where
  pub g1 : List ℕ
  pub t1 : List ℕ
  pub h1 : ℕ
  pub drain : Drain k o fl g t h m g1 t1 h1
  pub more : 0 < h1
  pub stuck : Stuck k o fl (get_or t1 (h1 - 1) 0) g1 t1 (h1 - 1) s g' t'

-- the pieces that start below cell i, each at its lowest cell with no sign, with m cells taken off in all
pub data Pieces (k : ℕ) (o fl : List ℕ) (g t : List ℕ) : ℕ → ℕ → List ℕ → List ℕ → Type 0 where
  none_yet : Pieces k o fl g t 0 0 g t
  signed : {i m : ℕ} {g1 t1 : List ℕ} → Pieces k o fl g t i m g1 t1 → (get_or g1 i 0 ≡ 0 → ⊥) → Pieces k o fl g t (i + 1) m g1 t1
  begun : {i m m' : ℕ} {g1 t1 g2 t2 : List ℕ} → Pieces k o fl g t i m g1 t1 → get_or g1 i 0 ≡ 0 →
      Drain k o fl (set g1 i 1) (set t1 0 i) 1 m' g2 t2 0 → Pieces k o fl g t (i + 1) (m + m') g2 t2

-- the whole walk up to its clash: m cells taken off whole, and a clash at slot s of the next
pub record Refused (n k : ℕ) (o fl : List ℕ) (g t : List ℕ) (m s : ℕ) (g' t' : List ℕ) : Type 0 where
  pub i : ℕ
  pub before : ℕ
  pub after : ℕ
  pub g1 : List ℕ
  pub t1 : List ℕ
  pub below : i < n
  pub pieces : Pieces k o fl g t i before g1 t1
  pub blank : get_or g1 i 0 ≡ 0
  pub broken : Broken k o fl (set g1 i 1) (set t1 0 i) 1 after s g' t'
  pub sum : m ≡ before + after

-- what a look asks: its slot is in the lists, and leads to a cell or to none
pub record Ready (n : ℕ) (o fl : List ℕ) (c p : ℕ) (g t : List ℕ) (h : ℕ) : Type 0 where
  pub few : n < 4294967295
  pub cell : c < n
  pub other : p < length o
  pub flip : p < length fl
  pub leads : (get_or o p 0 ≡ 4294967295 → ⊥) → get_or o p 0 < n
  pub fit : Fit n g t h

-- what a look gives: the new height, or none at a clash
pub data Looked (o fl : List ℕ) (c p : ℕ) (g t : List ℕ) (h : ℕ) (g' t' : List ℕ) : Option ℕ → Type 0 where
  goes : {h' : ℕ} → Look o fl c p g t h g' t' h' → Looked o fl c p g t h g' t' (Some h')
  stops : Clash o fl c p g → g' ≡ g → t' ≡ t → Looked o fl c p g t h g' t' None

-- what the looks at one cell ask: the cell has a sign
pub record Taking (n k : ℕ) (o fl : List ℕ) (c : ℕ) (g t : List ℕ) (h : ℕ) : Type 0 where
  pub table : Table n k o fl
  pub cell : c < n
  pub signed : 0 < get_or g c 0
  pub fit : Fit n g t h

-- what they give: the new height, or the slot of the clash
pub data Took (k : ℕ) (o fl : List ℕ) (c : ℕ) (g t : List ℕ) (h : ℕ) (g' t' : List ℕ) : Result ℕ ℕ → Type 0 where
  goes : {top : ℕ} → Slots k o fl c g t h k g' t' top → Took k o fl c g t h g' t' (Ok top)
  stops : {slot : ℕ} → Stuck k o fl c g t h slot g' t' → Took k o fl c g t h g' t' (Err slot)

-- what emptying the stack asks
pub record Draining (n k : ℕ) (o fl : List ℕ) (g t : List ℕ) (h : ℕ) : Type 0 where
  pub table : Table n k o fl
  pub fit : Fit n g t h

-- what it gives: the cells taken off, or where the walk stops
pub data Drained (k : ℕ) (o fl : List ℕ) (g t : List ℕ) (h : ℕ) (g' t' : List ℕ) : Result ℕ Stop → Type 0 where
  goes : {taken : ℕ} → Drain k o fl g t h taken g' t' 0 → Drained k o fl g t h g' t' (Ok taken)
  stops : {stop : Stop} → Broken k o fl g t h stop.taken stop.slot g' t' → Drained k o fl g t h g' t' (Err stop)

-- what a piece asks and gives, where cell i has no sign
pub record Starting (n k : ℕ) (o fl : List ℕ) (i : ℕ) (g t : List ℕ) : Type 0 where
  pub table : Table n k o fl
  pub cell : i < n
  pub blank : get_or g i 0 ≡ 0
  pub fit : Fit n g t 0

-- the walk from signs that are all 0
pub record Walking (n k : ℕ) (o fl : List ℕ) (g t : List ℕ) : Type 0 where
  pub table : Table n k o fl
  pub signs : n ≤ length g
  pub stack : n ≤ length t
  pub blank : (c : ℕ) → c < n → get_or g c 0 ≡ 0

-- what it gives: the cells taken off, or where the walk stops
pub data Spread (n k : ℕ) (o fl : List ℕ) (g t : List ℕ) (g' t' : List ℕ) : Result ℕ Stop → Type 0 where
  goes : {taken : ℕ} → Pieces k o fl g t n taken g' t' → Spread n k o fl g t g' t' (Ok taken)
  stops : {stop : Stop} → Refused n k o fl g t stop.taken stop.slot g' t' → Spread n k o fl g t g' t' (Err stop)

-- the signs as the walk begins
abbrev pub wiped : ℕ → List ℕ → List ℕ
wiped n g = replicate n 0 ++ drop n g

-- the looks of the walk up to its clash
pub record Looks (n k : ℕ) (o fl : List ℕ) (g t : List ℕ) (g' t' : List ℕ) (looks : ℕ) : Type 0 where
  pub taken : ℕ
  pub slot : ℕ
  pub refused : Refused n k o fl g t taken slot g' t'
  pub count : looks ≡ taken * k + slot + 1

-- what the walk's answer says
pub record Answer (n k : ℕ) (o fl : List ℕ) (g t g' t' : List ℕ) (ok : Bool) (looks : ℕ) : Type 0 where
  pub yes : ok ≡ true → OrientedMarks n k o fl (λ c. get_or g' c 0)
  pub whole : ok ≡ true → looks ≡ n * k
  pub run : ok ≡ true → Pieces k o fl (wiped n g) t n n g' t'
  pub no : ok ≡ false → (σ : ℕ → ℕ) → CoherentMarks n k o fl σ → ⊥
  pub part : ok ≡ false → Looks n k o fl (wiped n g) t g' t' looks
  pub most : looks ≤ n * k
