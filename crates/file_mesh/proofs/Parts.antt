-- Reading one part: what was written is read, and what was read was written. Assumes nothing.
use Rattle.refusal.specs.declared.Refusal.{Refusal}
use mathlib.Core.Path.{◌≡◌, refl, sym, ap, subst, ◌∙◌}
use mathlib.Core.Bool.{Bool, true, false, cond, ◌&&◌, false≢true}
use mathlib.Core.List.{List, ◌++◌}
use Prim.Native.Nat.{ℕ, ◌+◌, ◌*◌, ◌^◌, ◌≤◌, ◌<◌}
use native.Mathlib.Omega.{arith}
use lib.ListN.{length, take, drop, length-append, take-append-drop}
use lib.Seq.{take_at, drop_at}
use lib.Dec.{ltb}
use borrow.Author.Tests.{ltb-false, le-ltb}
use Rattle.lists.proofs.Members.{All}
use Rattle.file_bytes.specs.Bytes.{little, said, fours}
use Rattle.file_bytes.proofs.Laws.{IsByte, Bytes, Four, all_drop, little-length, said-little, said-again, said-below, fours-length, fours-read, fours_of-length, fours-again, fours_of-small}
use Rattle.file_mesh.specs.Read.{Part, no, got, and_then, asked, number, field, numbers}

-- ---- tests

pub both : (a b : Bool) → (a && b) ≡ true → (a ≡ true) × (b ≡ true)
both true b e = (refl, e)
both false b e = absurd (false≢true e)

pub and_both : {a b : Bool} → a ≡ true → b ≡ true → (a && b) ≡ true
and_both {a = true} {b = b} p q = q
and_both {a = false} {b = b} p q = absurd (false≢true p)

-- ---- parts one after the other

-- a part that was read before another, and the other
pub record Then {A B : Type 0} (p : Part A) (f : A → List ℕ → Part B) (y : B) (t : List ℕ) : Type 0 where
  pub x : A
  pub r : List ℕ
  pub part : p ≡ got x r
  pub next : f x r ≡ got y t

pub refused-not : {A : Type 0} {why : Refusal} {x : A} {r : List ℕ} → ◌≡◌ {A = Part A} (no why) (got x r) → ⊥
refused-not e = cc

pub then-inv : {A B : Type 0} (p : Part A) (f : A → List ℕ → Part B) (y : B) (t : List ℕ) → and_then p f ≡ got y t → Then p f y t
unfolding and_then
then-inv (no why) f y t e = absurd (refused-not e)
then-inv (got x r) f y t e = record { x = x; r = r; part = refl; next = e }

pub then-got : {A B : Type 0} (p : Part A) (f : A → List ℕ → Part B) (x : A) (r : List ℕ) → p ≡ got x r → and_then p f ≡ f x r
unfolding and_then
then-got p f x r e = rw e

pub asked-inv : {A : Type 0} (b : Bool) (p : Part A) (y : A) (t : List ℕ) → asked b p ≡ got y t → (b ≡ true) × (p ≡ got y t)
unfolding asked
asked-inv true p y t e = (refl, e)
asked-inv false p y t e = absurd (refused-not e)

pub asked-yes : {A : Type 0} (b : Bool) (p : Part A) → b ≡ true → asked b p ≡ p
unfolding asked
asked-yes b p e = rw e

pub cond-inv : {A : Type 0} (b : Bool) (why : Refusal) (p : Part A) (y : A) (t : List ℕ) → cond b p (no why) ≡ got y t → (b ≡ true) × (p ≡ got y t)
cond-inv true why p y t e = (refl, e)
cond-inv false why p y t e = absurd (refused-not e)

-- what a part read and what is left
pub same-part : {A : Type 0} {x y : A} {r t : List ℕ} → got x r ≡ got y t → (x ≡ y) × (r ≡ t)
same-part e = (cc, cc)

-- ---- numbers

pub number_read : (k n : ℕ) (rest : List ℕ) → n < 256 ^ k → number k (little k n ++ rest) ≡ got n rest
unfolding number
number_read k n rest h =
    let l : length (little k n ++ rest) ≡ k + length rest = length-append (little k n) rest ∙ ap (λ (x : ℕ). x + length rest) (little-length k n) in
    let t : said (take k (little k n ++ rest)) ≡ n = ap said (take_at (little k n) rest k (little-length k n)) ∙ said-little k n h in
    rw (le-ltb (length (little k n ++ rest)) k (omega arith), t, drop_at (little k n) rest k (little-length k n))

-- n was read in k bytes, and r is left
pub record Came (k n : ℕ) (bs r : List ℕ) : Type 0 where
  pub whole : bs ≡ little k n ++ r
  pub small : n < 256 ^ k
  pub bytes : Bytes r

pub number-came : (k n : ℕ) (bs r : List ℕ) → number k bs ≡ got n r → Bytes bs → Came k n bs r
unfolding number
number-came k n bs r e a = go (ltb (length bs) k) refl
  where
    go : (t : Bool) → ltb (length bs) k ≡ t → Came k n bs r
    go true q = absurd (refused-not (rw q at e))
    go false q =
        let h : k ≤ length bs = ltb-false (length bs) k q in
        let s = same-part (rw q at e) in
        record {
          whole = sym (take-append-drop k bs) ∙ ap (λ (l : List ℕ). l ++ drop k bs) (sym (said-again k bs h a)) ∙ cc (s.0, s.1);
          small = subst (λ (x : ℕ). x < 256 ^ k) s.0 (said-below k bs h a);
          bytes = subst Bytes s.1 (all_drop IsByte k bs a);
        }

pub field-read : (k : ℕ) (test : ℕ → Bool) (n : ℕ) (rest : List ℕ) → n < 256 ^ k → test n ≡ true → field k test (little k n ++ rest) ≡ got n rest
unfolding field
field-read k test n rest h e = then-got _ _ n rest (number_read k n rest h) ∙ asked-yes (test n) (got n rest) e

pub record Passed (k : ℕ) (test : ℕ → Bool) (n : ℕ) (bs r : List ℕ) : Type 0 where
  pub came : Came k n bs r
  pub fits : test n ≡ true

pub field-came : (k : ℕ) (test : ℕ → Bool) (n : ℕ) (bs r : List ℕ) → field k test bs ≡ got n r → Bytes bs → Passed k test n bs r
unfolding field
field-came k test n bs r e a =
    let i = then-inv (number k bs) _ n r e in
    let j = asked-inv (test i.x) (got i.x i.r) n r i.next in
    let s = same-part j.1 in
    let x : i.x ≡ n = s.0 in
    let y : i.r ≡ r = s.1 in
    record {
      came = number-came k n bs r (i.part ∙ cc) a;
      fits = ap test (sym x) ∙ j.0;
    }

pub numbers-read : (w rest : List ℕ) → All Four w → numbers (length w) (fours w ++ rest) ≡ got w rest
unfolding numbers
numbers-read w rest a =
    let l : length (fours w ++ rest) ≡ length w * 4 + length rest = length-append (fours w) rest ∙ ap (λ (x : ℕ). x + length rest) (fours-length w) in
    rw (le-ltb (length (fours w ++ rest)) (length w * 4) (omega arith), fours-read w rest a, drop_at (fours w) rest (length w * 4) (fours-length w))

pub record AllCame (n : ℕ) (w bs r : List ℕ) : Type 0 where
  pub whole : bs ≡ fours w ++ r
  pub long : length w ≡ n
  pub small : All Four w
  pub bytes : Bytes r

pub numbers-came : (n : ℕ) (w bs r : List ℕ) → numbers n bs ≡ got w r → Bytes bs → AllCame n w bs r
unfolding numbers
numbers-came n w bs r e a = go (ltb (length bs) (n * 4)) refl
  where
    go : (t : Bool) → ltb (length bs) (n * 4) ≡ t → AllCame n w bs r
    go true q = absurd (refused-not (rw q at e))
    go false q =
        let h : n * 4 ≤ length bs = ltb-false (length bs) (n * 4) q in
        let s = same-part (rw q at e) in
        record {
          whole = sym (take-append-drop (n * 4) bs) ∙ ap (λ (l : List ℕ). l ++ drop (n * 4) bs) (sym (fours-again n bs h a)) ∙ cc (s.0, s.1);
          long = ap length (sym s.0) ∙ fours_of-length n bs;
          small = subst (All Four) s.0 (fours_of-small n bs h a);
          bytes = subst Bytes s.1 (all_drop IsByte (n * 4) bs a);
        }
