-- The births of a file that was read are those that stand in its bytes, and how many they are. Assumes nothing.
use Rattle.refusal.specs.declared.Refusal.TheVariants.{FileEnds}
use mathlib.Core.Path.{◌≡◌, refl, sym, ap, subst, ◌∙◌}
use mathlib.Core.Bool.{Bool, true, false, cond, ◌&&◌, ◌||◌}
use mathlib.Core.List.{List, ◌∷◌}
use Prim.Native.Nat.{ℕ, zero, suc, ◌+◌, ◌*◌, ◌≤◌, ◌<◌}
use native.Mathlib.Omega.{arith}
use lib.ListN.{length, take, drop, length-append}
use lib.Dec.{leb, ltb, eqb}
use borrow.Author.Tests.{ltb-true, leb-true, eqb-true}
use Rattle.refusal.specs.Limits.{most_refinement}
use Rattle.file_bytes.specs.Bytes.{said}
use Rattle.file_mesh.specs.declared.Run.{Run}
use Rattle.file_mesh.specs.Rules.{more, number_fits, refinement_fits, count_fits, vertex_fits, weight_fits, weights_of}
use Rattle.file_mesh.specs.Read.{no, got, and_then, number, field, pairs_from, Birth, birth_from, Births, no_births, with_birth, births_read_from}
use Rattle.file_mesh.proofs.Parts.{both, refused-not, same-part, then-inv, asked-inv}
use Rattle.file_mesh_write.proofs.Sizes.{next_of, r-of, runs_on}
use Rattle.file_mesh_read.specs.Work.{Next, one, end, next_from, pairs_in, count_in, birth_in, births_in, end_in}
use Rattle.file_mesh_read.proofs.Records.{field-rest, birth-rest, after, by-record, next-birth}

-- ---- what a part that was read says

number-told : (k : ℕ) (xs : List ℕ) (n : ℕ) (r : List ℕ) → number k xs ≡ got n r → n ≡ said (take k xs)
unfolding number
number-told k xs n r e = go (ltb (length xs) k) e
  where
    go : (t : Bool) → cond t (no FileEnds) (got (said (take k xs)) (drop k xs)) ≡ got n r → n ≡ said (take k xs)
    go true q = absurd (refused-not q)
    go false q = sym (same-part q).0

field_told : (k : ℕ) (test : ℕ → Bool) (xs : List ℕ) (n : ℕ) (r : List ℕ) → field k test xs ≡ got n r → (n ≡ said (take k xs)) × (test n ≡ true)
unfolding field
field_told k test xs n r e =
    let i = then-inv (number k xs) _ n r e in
    let a = asked-inv (test i.x) (got i.x i.r) n r i.next in
    let s = same-part a.1 in
    (sym s.0 ∙ number-told k xs i.x i.r i.part, ap test (sym s.0) ∙ a.0)

pub record PairsTold (at c : ℕ) (bs ps : List ℕ) : Type 0 where
  pub is : ps ≡ pairs_in c at bs
  pub heavy : c ≤ weights_of ps

pairs-told : (bs : List ℕ) (at first low c : ℕ) (ps r : List ℕ) → pairs_from first low c (drop at bs) ≡ got ps r → PairsTold at c bs ps
unfolding pairs_from pairs_in weights_of
pairs-told bs at first low zero ps r e = record { is = sym (same-part e).0; heavy = omega arith }
pairs-told bs at first low (suc c) ps r e =
    let i = then-inv (field 4 (vertex_fits first low) (drop at bs)) _ ps r e in
    let f = field-rest bs at 4 (vertex_fits first low) i.x i.r i.part in
    let v = field_told 4 (vertex_fits first low) (drop at bs) i.x i.r i.part in
    let j = then-inv (field 2 weight_fits i.r) _ ps r i.next in
    let q : field 2 weight_fits (drop (at + 4) bs) ≡ got j.x j.r = ap (field 2 weight_fits) (sym f.1) ∙ j.part in
    let g = field-rest bs (at + 4) 2 weight_fits j.x j.r q in
    let w = field_told 2 weight_fits (drop (at + 4) bs) j.x j.r q in
    let k = then-inv (pairs_from first (suc i.x) c j.r) _ ps r j.next in
    let h = pairs-told bs (at + 4 + 2) first (suc i.x) c k.x k.r (ap (pairs_from first (suc i.x) c) (sym g.1) ∙ k.part) in
    let s = same-part k.next in
    let n : at + 4 + 2 ≡ at + 6 = omega arith in
    record {
      is =
          sym s.0 ∙ ap (λ (x : ℕ). x ∷ (j.x ∷ k.x)) v.0 ∙ ap (λ (x : ℕ). said (take 4 (drop at bs)) ∷ (x ∷ k.x)) w.0
          ∙ ap (λ (l : List ℕ). said (take 4 (drop at bs)) ∷ (said (take 2 (drop (at + 4) bs)) ∷ l)) (h.is ∙ ap (λ (x : ℕ). pairs_in c x bs) n);
      heavy = subst (λ (l : List ℕ). suc c ≤ weights_of l) s.0 (let one_more : 1 ≤ j.x = leb-true 1 j.x w.1 in omega (arith, h.heavy));
    }

-- a birth whose record's opening ends at `at`
pub record BirthTold (vertices : ℕ) (run : Run) (at : ℕ) (bs : List ℕ) (b : Birth) : Type 0 where
  pub number : b.number ≡ said (take 4 (drop at bs))
  pub refinement : b.r ≡ said (take 2 (drop (at + 4) bs))
  pub count : b.count ≡ said (take 2 (drop (at + 4 + 2) bs))
  pub pairs : b.pairs ≡ pairs_in b.count (at + 4 + 2 + 2) bs
  pub number_fit : number_fits vertices run b.number ≡ true
  pub refinement-fits : refinement_fits run b.r ≡ true
  pub few : b.count ≤ b.r
  pub two : 2 ≤ b.count

birth-told : (vertices : ℕ) (run : Run) (len : ℕ) (bs : List ℕ) (at : ℕ) (b : Birth) (r : List ℕ) → birth_from vertices run len (drop at bs) ≡ got b r → BirthTold vertices run at bs b
unfolding birth_from
birth-told vertices run len bs at b r e =
    let i = then-inv (field 4 (number_fits vertices run) (drop at bs)) _ b r e in
    let fi = field-rest bs at 4 (number_fits vertices run) i.x i.r i.part in
    let ti = field_told 4 (number_fits vertices run) (drop at bs) i.x i.r i.part in
    let j = then-inv (field 2 (refinement_fits run) i.r) _ b r i.next in
    let qj : field 2 (refinement_fits run) (drop (at + 4) bs) ≡ got j.x j.r = ap (field 2 (refinement_fits run)) (sym fi.1) ∙ j.part in
    let fj = field-rest bs (at + 4) 2 (refinement_fits run) j.x j.r qj in
    let tj = field_told 2 (refinement_fits run) (drop (at + 4) bs) j.x j.r qj in
    let k = then-inv (field 2 (λ c. count_fits c && eqb len (10 + c * 6)) j.r) _ b r j.next in
    let qk : field 2 (λ c. count_fits c && eqb len (10 + c * 6)) (drop (at + 4 + 2) bs) ≡ got k.x k.r = ap (field 2 (λ c. count_fits c && eqb len (10 + c * 6))) (sym fj.1) ∙ k.part in
    let fk = field-rest bs (at + 4 + 2) 2 (λ c. count_fits c && eqb len (10 + c * 6)) k.x k.r qk in
    let tk = field_told 2 (λ c. count_fits c && eqb len (10 + c * 6)) (drop (at + 4 + 2) bs) k.x k.r qk in
    let p = then-inv (pairs_from (more run i.x j.x).first 0 k.x k.r) _ b r k.next in
    let tp = pairs-told bs (at + 4 + 2 + 2) (more run i.x j.x).first 0 k.x p.x p.r (ap (pairs_from (more run i.x j.x).first 0 k.x) (sym fk.1) ∙ p.part) in
    let a = asked-inv (eqb (weights_of p.x) j.x) _ b r p.next in
    let s = same-part a.1 in
    subst (λ (y : Birth). BirthTold vertices run at bs y) s.0
    (record {
      number = ti.0;
      refinement = tj.0;
      count = tk.0;
      pairs = tp.is;
      number_fit = ti.1;
      refinement-fits = tj.1;
      few = omega (arith, tp.heavy, eqb-true (weights_of p.x) j.x a.0);
      two = leb-true 2 k.x (both (count_fits k.x) (eqb len (10 + k.x * 6)) tk.1).0;
    })

birth-is : (n n' r r' c c' : ℕ) (ps ps' : List ℕ) → n ≡ n' → r ≡ r' → c ≡ c' → ps ≡ ps' →
    ◌≡◌ {A = Birth} (record { number = n; r = r; count = c; pairs = ps }) (record { number = n'; r = r'; count = c'; pairs = ps' })
birth-is n n' r r' c c' ps ps' a b d e = rw (a, b, d, e)

told_is : (vertices : ℕ) (run : Run) (at : ℕ) (bs : List ℕ) (b : Birth) → BirthTold vertices run (at + 6) bs b → b ≡ birth_in at bs
told_is vertices run at bs b t =
    let c : b.count ≡ count_in at bs = t.count ∙ ap (λ (x : ℕ). said (take 2 (drop x bs))) {x = at + 6 + 4 + 2} {y = at + 12} (omega arith) in
    birth-is b.number (said (take 4 (drop (at + 6) bs))) b.r (said (take 2 (drop (at + 10) bs))) b.count (count_in at bs) b.pairs (pairs_in (count_in at bs) (at + 14) bs)
    t.number
    (t.refinement ∙ ap (λ (x : ℕ). said (take 2 (drop x bs))) {x = at + 6 + 4} {y = at + 10} (omega arith))
    c
    (t.pairs ∙ ap (λ (x : ℕ). pairs_in b.count x bs) {x = at + 6 + 4 + 2 + 2} {y = at + 14} (omega arith) ∙ ap (λ (x : ℕ). pairs_in x (at + 14) bs) c)

-- ---- the births

pub record BirthsAre (vertices next at : ℕ) (bs : List ℕ) (l : Births) : Type 0 where
  pub many : ℕ
  pub weights : ℕ
  pub is : l ≡ births_in many at bs
  pub inside : end_in many at bs ≤ length bs
  pub of_births : length l.births ≡ many * 3
  pub of_pairs : length l.pairs ≡ weights * 2
  pub few : many + next ≤ vertices
  pub light : weights ≤ many * most_refinement
  pub heavy : many * 2 ≤ weights
  pub size : at + (many * 14 + weights * 6) ≤ length bs

births-none : (vertices next at : ℕ) (bs : List ℕ) → at ≤ length bs → next ≤ vertices → BirthsAre vertices next at bs no_births
unfolding births_in end_in
births-none vertices next at bs a h =
    record { many = 0; weights = 0; is = refl; inside = a; of_births = refl; of_pairs = refl; few = omega arith; light = omega arith; heavy = omega arith; size = omega arith }

births-one : (vertices : ℕ) (run : Run) (at : ℕ) (bs : List ℕ) (b : Birth) (l : Births) → (run.r ≡ 0 → run.next ≡ 0) → BirthTold vertices run (at + 6) bs b → length b.pairs ≡ b.count + b.count →
    BirthsAre vertices (suc b.number) (at + (14 + count_in at bs * 6)) bs l → BirthsAre vertices run.next at bs (with_birth b l)
unfolding births_in end_in
births-one vertices run at bs b l z t long i =
    let on = runs_on vertices run b.number z t.number_fit in
    let r64 : b.r ≤ most_refinement = leb-true b.r most_refinement (both (leb b.r most_refinement) (eqb run.r 0 || eqb b.r run.r) (both (leb 2 b.r) (leb b.r most_refinement && (eqb run.r 0 || eqb b.r run.r)) t.refinement-fits).1).0 in
    record {
      many = suc i.many;
      weights = b.count + i.weights;
      is = ap (λ (x : Birth). with_birth x l) (told_is vertices run at bs b t) ∙ ap (with_birth (birth_in at bs)) i.is;
      inside = i.inside;
      of_births = omega (arith, i.of_births);
      of_pairs = length-append b.pairs l.pairs ∙ omega (arith, i.of_pairs);
      few = omega (arith, i.few);
      light = omega (arith, i.light, t.few);
      heavy = omega (arith, i.heavy, t.two);
      size = omega (arith, i.size, ap (λ (x : Birth). x.count * 6) (told_is vertices run at bs b t));
    }

-- the record at `at`, and the births after it
module _ (most vertices : ℕ) (run : Run) (at : ℕ) (bs : List ℕ) (l : Births) (r : List ℕ) (a : at ≤ length bs) (h : run.next ≤ vertices) (z : run.r ≡ 0 → run.next ≡ 0)
    (later : (next : Run) (on : ℕ) (k : Births) (t : List ℕ) → on ≤ length bs → next.next ≤ vertices → (next.r ≡ 0 → next.next ≡ 0) → births_read_from most vertices next (drop on bs) ≡ got k t → BirthsAre vertices next.next on bs k) where
  step-one : (b : Birth) (s : List ℕ) → next_from vertices run (drop at bs) ≡ got (one b) s → and_then (births_read_from most vertices (more run b.number b.r) s) (λ k t. got (with_birth b k) t) ≡ got l r → BirthsAre vertices run.next at bs l
  step-one b s p q =
      let n = next-birth vertices run bs at b s p in
      let w = birth-rest vertices run n.len bs (at + 6) b s n.is in
      let t = birth-told vertices run n.len bs (at + 6) b s n.is in
      let on = at + (14 + count_in at bs * 6) in
      let c : b.count * 6 ≡ count_in at bs * 6 = ap (λ (x : Birth). x.count * 6) (told_is vertices run at bs b t) in
      let d : s ≡ drop on bs = w.rest ∙ ap (λ (x : ℕ). drop x bs) {x = at + 6 + (8 + b.count * 6)} {y = on} (omega arith) in
      let i = then-inv (births_read_from most vertices (more run b.number b.r) s) _ l r q in
      let low : b.number < vertices = ltb-true b.number vertices (both (ltb b.number vertices) (eqb run.r 0 || eqb b.number run.next) t.number_fit).0 in
      let two : 2 ≤ b.r = leb-true 2 b.r (both (leb 2 b.r) (leb b.r most_refinement && (eqb run.r 0 || eqb b.r run.r)) t.refinement-fits).0 in
      let f = next_of run.r run b.number b.r in
      let g = later (more run b.number b.r) on i.x i.r (omega (arith, n.inside, w.inside)) (omega (arith, f)) (λ x. absurd (omega (arith, x, r-of run.r run b.number b.r))) (ap (births_read_from most vertices (more run b.number b.r)) (sym d) ∙ i.part) in
      subst (BirthsAre vertices run.next at bs) (same-part i.next).0
      (births-one vertices run at bs b i.x z t w.long (subst (λ (x : ℕ). BirthsAre vertices x on bs i.x) f g))

  step : (x : Next) (s : List ℕ) → next_from vertices run (drop at bs) ≡ got x s → after most vertices run x s ≡ got l r → BirthsAre vertices run.next at bs l
  step end s p q = subst (BirthsAre vertices run.next at bs) (same-part q).0 (births-none vertices run.next at bs a h)
  step (one b) s p q = step-one b s p q

pub births-are : (most vertices : ℕ) (run : Run) (at : ℕ) (bs : List ℕ) (l : Births) (r : List ℕ) → at ≤ length bs → run.next ≤ vertices → (run.r ≡ 0 → run.next ≡ 0) →
    births_read_from most vertices run (drop at bs) ≡ got l r → BirthsAre vertices run.next at bs l
unfolding births_read_from
births-are zero vertices run at bs l r a h z e = absurd (refused-not e)
births-are (suc most) vertices run at bs l r a h z e =
    let i = then-inv (next_from vertices run (drop at bs)) (after most vertices run) l r (sym (by-record most vertices run (drop at bs)) ∙ e) in
    step most vertices run at bs l r a h z (λ next on k t. births-are most vertices next on bs k t) i.x i.r i.part i.next
