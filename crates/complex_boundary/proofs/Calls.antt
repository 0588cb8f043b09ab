-- Over what the calls hand out: the boundary of a boundary is zero. Assumes nothing.
use Rattle.refusal.specs.declared.Refusal.{Refusal}
use Rattle.refusal.specs.Says.{Counted}
use Rattle.std.specs.Prelude.{Err, Ok}
use mathlib.Core.List.{List, []}
use mathlib.Core.Path.{◌≡◌, refl, ap, ◌∙◌}
use Prim.Native.Nat.{ℕ, suc, ◌≤◌}
use lib.ListN.{length, take, drop, length-map}
use lib.Seq.{take_at}
use lib.IntN.{ℤ, pos}
use Rattle.refusal.specs.declared.Room.{Room}
use Rattle.refusal.specs.Call.{Comes, refused, cramped, ended}
use Rattle.refusal.specs.Lent.{onto}
use Rattle.complex.specs.Check.{answer_of}
use Rattle.complex.specs.Cells.{cells_of}
use Rattle.skeleton.specs.Promise.{Ends, crowded, rest}
use Rattle.complex_faces.specs.Faces.{faces_of}
use Rattle.complex_faces.specs.Entries.{Entry, entries_of, entries_from, signs_in, faces_in, cofaces_in, product_at}
use Rattle.complex_faces.proofs.Twice.{boundary-twice-handed}
use Rattle.complex_boundary.specs.Promise.{Within, outside, inside, GivesEntries, signs_short, faces_short, cofaces_short, entries_listed, Bounded}

clash : {A : Type 0} {why : Refusal} {n : ℕ} → ◌≡◌ {A = Counted} (Err why) (Ok n) → A
clash e = cc

-- a call that says a count has handed out the entries, and the count is theirs
module _ (d : ℕ) (ws : List ℕ) (need have : Room) (There : Type 0) (es : List Entry) (a b c : ℕ) where
  counted : (r : Counted) (h : List ℤ × List ℕ × List ℕ) (used : Room) → Comes Err ([], [], []) (answer_of d ws) need have (Ends ([], [], []) d (cells_of d ws) (Within ([], [], []) There (GivesEntries es a b c))) r h used → (n : ℕ) → r ≡ Ok n → (h ≡ (signs_in es, faces_in es, cofaces_in es)) × (length es ≡ n)
  counted r h used (refused e) n q = clash q
  counted r h used (cramped e f) n q = clash q
  counted r h used (ended e f (crowded x)) n q = clash q
  counted r h used (ended e f (rest x (outside y))) n q = clash q
  counted r h used (ended e f (rest x (inside y (signs_short z)))) n q = clash q
  counted r h used (ended e f (rest x (inside y (faces_short z)))) n q = clash q
  counted r h used (ended e f (rest x (inside y (cofaces_short z)))) n q = clash q
  counted r h used (ended e f (rest x (inside y (entries_listed u v w)))) n q = (refl, same q)
    where
      same : ◌≡◌ {A = Counted} (Ok (length es)) (Ok n) → length es ≡ n
      same q = cc

-- the front of a result list is what was handed out
front : {A : Type 0} (l xs xs' : List A) (n : ℕ) → length l ≡ n → xs' ≡ onto l xs → take n xs' ≡ l
front l xs xs' n e q = ap (take n) q ∙ take_at l (drop (length l) xs) n e

-- the three lists of a call that says n
pub record Said (d k : ℕ) (ws : List ℕ) (n : ℕ) (signs' : List ℤ) (faces' cofaces' : List ℕ) : Type 0 where
  pub signs_are : take n signs' ≡ signs_in (entries_of (cells_of d ws) k)
  pub faces_are : take n faces' ≡ faces_in (entries_of (cells_of d ws) k)
  pub cofaces_are : take n cofaces' ≡ cofaces_in (entries_of (cells_of d ws) k)

pub boundary-said : (d k : ℕ) (ws : List ℕ) (n : ℕ) (signs signs' : List ℤ) (faces faces' cofaces cofaces' keys keys' rows rows' spare spare' counts counts' : List ℕ) → Bounded d k ws (Ok n) signs signs' faces faces' cofaces cofaces' keys keys' rows rows' spare spare' counts counts' → Said d k ws n signs' faces' cofaces'
boundary-said d k ws n signs signs' faces faces' cofaces cofaces' keys keys' rows rows' spare spare' counts counts' a =
    let es = entries_of (cells_of d ws) k in
    let w = counted d ws _ _ ((1 ≤ k) × (k ≤ d)) (entries_of (cells_of d ws) k) (length signs) (length faces) (length cofaces) (Ok n) a.handed a.call.used a.call.comes n refl in
    record {
      signs_are = front (signs_in (entries_of (cells_of d ws) k)) signs signs' n (length-map (entries_of (cells_of d ws) k) (λ (e : Entry). e.sign) ∙ w.1) (a.signs_are ∙ ap (λ (h : List ℤ × List ℕ × List ℕ). onto h.0 signs) w.0);
      faces_are = front (faces_in (entries_of (cells_of d ws) k)) faces faces' n (length-map (entries_of (cells_of d ws) k) (λ (e : Entry). e.face) ∙ w.1) (a.faces_are ∙ ap (λ (h : List ℤ × List ℕ × List ℕ). onto h.1 faces) w.0);
      cofaces_are = front (cofaces_in (entries_of (cells_of d ws) k)) cofaces cofaces' n (length-map (entries_of (cells_of d ws) k) (λ (e : Entry). e.coface) ∙ w.1) (a.cofaces_are ∙ ap (λ (h : List ℤ × List ℕ × List ℕ). onto h.2 cofaces) w.0);
    }

-- two calls, for dimension k and for the next, that say n and n': the product of their operators is zero in every entry
pub boundary-calls : (d k : ℕ) (ws : List ℕ) (n n' : ℕ) (s s' : List ℤ) (f f' g g' : List ℕ) → Said d (suc k) ws n s f g → Said d (suc (suc k)) ws n' s' f' g' →
    (row column : ℕ) → product_at (length (faces_of (cells_of d ws) (suc k))) (entries_from (take n s) (take n f) (take n g)) (entries_from (take n' s') (take n' f') (take n' g')) row column ≡ pos 0
boundary-calls d k ws n n' s s' f f' g g' a b row column =
    boundary-twice-handed (cells_of d ws) k (take n s) (take n' s') (take n f) (take n' f') (take n g) (take n' g') a.signs_are a.faces_are a.cofaces_are b.signs_are b.faces_are b.cofaces_are row column
