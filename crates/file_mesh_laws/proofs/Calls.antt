-- The law over the calls: whenever a refinement call by R ≥ 2 is not refused, the mesh in the lists that it hands out is one that a mesh file takes. Assumes nothing.
use Rattle.refusal.specs.declared.Refusal.{Refusal}
use Rattle.std.specs.Prelude.{Result}
use Rattle.refusal.specs.Says.{fine}
use mathlib.Core.Path.{◌≡◌, refl, sym, ap, subst}
use mathlib.Core.Bool.{true}
use mathlib.Core.List.{List}
use Prim.Native.Nat.{ℕ, ◌≤◌}
use native.Mathlib.Omega.{arith}
use Rattle.refusal.specs.Call.{refused, cramped, ended}
use Rattle.complex.specs.Check.{answer_of, Passed}
use Rattle.complex.specs.Facets.{Crowded}
use Rattle.complex.proofs.Fine.{fine-passed, passed-fine}
use Rattle.complex.specs.Cells.{cells_of}
use Rattle.refine_lattice.specs.Refine.{vertices}
use Rattle.ordering_words.specs.Order.{Orders}
use Rattle.refine_results.specs.declared.Refinement.{Refinement}
use Rattle.refine_results.specs.Says.{sizes}
use Rattle.refine_results.specs.Refined.{coarse, order_words}
use Rattle.refine_results.specs.Results.{Results, Lengths, results_of, outside, many_cells, many_vertices, short, made}
use Rattle.refine.specs.declared.Space.{Space}
use Rattle.refine.specs.Promise.{crowded, unordered, finished, Comes}
use Rattle.refine_laws.specs.Demand.{vertices_said}
use Rattle.refine_laws.proofs.Listed.{Listed}
use Rattle.refine_laws.proofs.Facets.{listed-nodup}
use Rattle.refine_laws.proofs.Checked.{cells-listed, order-listed, sound-of}
use Rattle.file_mesh.specs.Mesh.{Mesh}
use Rattle.file_mesh.specs.Rules.{rules}
use Rattle.file_mesh_laws.specs.Handed.{mesh_from}
use Rattle.file_mesh_laws.proofs.Kept.{refined-keeps}
use Rattle.file_mesh_laws.proofs.Rows.{handed-mesh}
use Rattle.file_mesh_laws.proofs.Passing.{refined-some, refined-passes, refined-uncrowded}

-- a mesh that a file takes: it keeps the rules, and its words pass the checks
pub record Takes (m : Mesh) : Type 0 where
  pub kept : rules m ≡ true
  pub fine : answer_of m.d m.words ≡ fine
  pub uncrowded : Crowded m.d (cells_of m.d m.words) → ⊥

module _ (d R : ℕ) (ws : List ℕ) (Good : Type 0) (ks : List (List ℕ)) (given : Lengths) (have : Space) (two : 2 ≤ R) (listed : Passed d ws → Good → Listed d (coarse ws) (cells_of d ws) ks) (m N : ℕ) where
  call-taken : (r : Result Refinement Refusal) (h : Results) (used : Space) → Comes d R ws Good ks given have r h used → r ≡ sizes m N → Takes (mesh_from d R (coarse ws) N h)
  call-taken r h used (refused e) q = cc
  call-taken r h used (cramped e g) q = cc
  call-taken r h used (ended e g (crowded x)) q = cc
  call-taken r h used (ended e g (unordered x y)) q = cc
  call-taken r h used (ended e g (finished x o (outside f))) q = cc
  call-taken r h used (ended e g (finished x o (many_cells f k))) q = cc
  call-taken r h used (ended e g (finished x o (many_vertices f k l))) q = cc
  call-taken r h used (ended e g (finished x o (short f k))) q = cc
  call-taken r h used (ended e g (finished x o (made f k))) q =
      let n = coarse ws in
      let p : Passed d ws = fine-passed d ws e in
      let l = listed p o in
      let s = sound-of d ws p ks l x in
      let v : vertices d R n ks ≡ N = ap (λ (z : Result Refinement Refusal). vertices_said z) q in
      subst (λ (y : ℕ). Takes (mesh_from d R n y (results_of d R n (cells_of d ws) ks))) v
      (subst Takes (sym (handed-mesh d R n ks s.complex.long (cells_of d ws)))
      (record {
        kept = refined-keeps d R n ks two f.most s (listed-nodup d n (cells_of d ws) ks l);
        fine = passed-fine d _ (refined-passes d R n ks s (listed-nodup d n (cells_of d ws) ks l) f p.small (refined-some d R n ks s (listed-nodup d n (cells_of d ws) ks l) f (omega arith)));
        uncrowded = refined-uncrowded d R n ks s (listed-nodup d n (cells_of d ws) ks l) f;
      }))

-- a call of `refine`
pub refine-taken : (d R : ℕ) (ws : List ℕ) (given : Lengths) (have used : Space) (m N : ℕ) (h : Results) → 2 ≤ R → Comes d R ws (Unit {0}) (cells_of d ws) given have (sizes m N) h used →
    Takes (mesh_from d R (coarse ws) N h)
refine-taken d R ws given have used m N h two c = call-taken d R ws (Unit {0}) (cells_of d ws) given have two (λ p o. cells-listed d ws p) m N (sizes m N) h used c refl

-- a call of `refine_with`
pub refine-with-taken : (d R : ℕ) (ws os : List ℕ) (given : Lengths) (have used : Space) (m N : ℕ) (h : Results) → 2 ≤ R →
    Comes d R ws (Orders d (cells_of d ws) os) (order_words d ws os) given have (sizes m N) h used → Takes (mesh_from d R (coarse ws) N h)
refine-with-taken d R ws os given have used m N h two c =
    call-taken d R ws (Orders d (cells_of d ws) os) (order_words d ws os) given have two (λ p o. order-listed d ws p os o) m N (sizes m N) h used c refl
