-- The work of `orient_by`, step by step: what each call asks follows from what the calls before it gave. Assumes nothing.
use Rattle.refusal.specs.declared.Refusal.TheVariants.{BadSigns, CrowdedFacet}
use Rattle.std.specs.Prelude.{Err, Ok}
use mathlib.Core.Bool.{Bool, true, false}
use mathlib.Core.List.{List}
use mathlib.Core.Path.{refl, ◌≡◌, sym, ap, ◌∙◌, subst}
use Prim.Native.Nat.{ℕ, suc, ◌≤◌}
use native.Mathlib.Nat.{mul-suc}
use native.Mathlib.Omega.{arith}
use lib.IntN.{ℤ}
use lib.ListN.{length, get_or}
use Rattle.lists.specs.Rows.{cut}
use Rattle.lists.proofs.Rows.{cut-length}
use Rattle.complex.specs.Cells.{cells_of}
use Rattle.complex.specs.Facets.{Crowded}
use Rattle.complex_facets.specs.WorkAcross.{Linked}
use Rattle.complex_cells.specs.WorkMade.{Made}
use Rattle.multiindex.specs.Sign.{Sign}
use Rattle.orientation_signs.specs.WorkFound.{sign_of}
use Rattle.complex_mates.proofs.Mated.{not-crowded}
use Rattle.orientation.specs.Work.{Furnished}
use Rattle.orientation.proofs.Steps.{searching}
use Rattle.orientation_by.specs.Promise.{Given, Ends, crowded, unfit, agreed, differs}
use Rattle.orientation_by.specs.WorkTest.{Weighing, Tested, TakenOver}

module _ (d : ℕ) (ws keys rows spare counts : List ℕ) (w : Furnished d ws keys rows spare counts) (m : ℕ) (keys' rows' spare' counts' : List ℕ) (lk : length keys' ≡ length keys) (lr : length rows' ≡ length rows) (ls : length spare' ≡ length spare) (lc : length counts' ≡ length counts) (a : Made d ws m rows') (signs : List ℤ) where
  cells-many : length (cells_of d ws) ≡ m
  cells-many = ap length (sym a.same) ∙ cut-length (suc d) m rows'

  -- 7
  pub ended-crowded : Crowded d (cut (suc d) m rows') → Ends d (cells_of d ws) signs (Err CrowdedFacet) tt
  ended-crowded x = crowded (subst (λ (cs : List (List ℕ)). Crowded d cs) a.same x)

  pub marks-fit : m ≤ length counts'
  marks-fit = omega (arith, a.most, mul-suc m d, w.counts_long)

  module _ (keys'' rows'' spare'' counts'' : List ℕ) (lk'' : length keys'' ≡ length keys') (lr'' : length rows'' ≡ length rows') (ls'' : length spare'' ≡ length spare') (lc'' : length counts'' ≡ length counts') (t : Linked d (cut (suc d) m rows') rows'' spare'') where
    free : Crowded d (cells_of d ws) → ⊥
    free x = not-crowded d m (cut (suc d) m rows') (cut-length (suc d) m rows') t.mates t.table (omega (arith, a.most, a.corners)) (subst (λ (cs : List (List ℕ)). Crowded d cs) (sym a.same) x)

    -- 14
    pub ended-unfit : ((σ : ℕ → Sign) → Given signs m σ → ⊥) → Ends d (cells_of d ws) signs (Err BadSigns) tt
    ended-unfit f = unfit free (λ σ g. f σ (subst (λ (n : ℕ). Given signs n σ) cells-many g))

    module _ (o : TakenOver m signs counts'') where
      pub weighing : Weighing d m rows'' spare'' counts''
      weighing =
          let s = searching d ws keys rows spare counts w m keys' rows' spare' counts' lk lr ls lc a keys'' rows'' spare'' counts'' lk'' lr'' ls'' lc'' t in
          record {
            searching =
                record {
                  cs = s.cs;
                  many = s.many;
                  linked = s.linked;
                  other_long = s.other_long;
                  flip_long = s.flip_long;
                  marks_long = s.marks_long;
                  stack_long = s.marks_long;
                  few = s.few;
                  small = s.small;
                };
            signs = o.fit;
          }

      given : Given signs (length (cells_of d ws)) (λ c. sign_of (get_or counts'' c 0))
      given = subst (λ (n : ℕ). Given signs n (λ c. sign_of (get_or counts'' c 0))) (sym cells-many) o.given

      module _ (ok : Bool) (f : (cs : List (List ℕ)) → length cs ≡ m → Linked d cs rows'' spare'' → Tested d cs ok (λ c. sign_of (get_or counts'' c 0))) where
        f' : Tested d (cells_of d ws) ok (λ c. sign_of (get_or counts'' c 0))
        f' = subst (λ (cs : List (List ℕ)). Tested d cs ok (λ c. sign_of (get_or counts'' c 0))) a.same (f (cut (suc d) m rows') (cut-length (suc d) m rows') t)

        either : (b : Bool) → ok ≡ b → Ends d (cells_of d ws) signs (Ok b) tt
        either true e = agreed free (λ c. sign_of (get_or counts'' c 0)) given (f'.yes e).0 (f'.yes e).1
        either false e = differs free (λ c. sign_of (get_or counts'' c 0)) given (f'.no e)

        pub ended-tested : Ends d (cells_of d ws) signs (Ok ok) tt
        ended-tested = either ok refl
