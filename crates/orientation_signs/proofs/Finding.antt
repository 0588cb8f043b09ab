-- What the call `coherent` finds: the walk's links are the cells' mates (proofs/Linking), and its looks are those of the defined walk (proofs/Looking). Assumes nothing.
use mathlib.Core.Bool.{Bool}
use mathlib.Core.List.{List}
use mathlib.Core.Path.{◌≡◌, sym, subst}
use Prim.Native.Nat.{ℕ, suc, ◌*◌, ◌<◌, ◌≤◌}
use lib.ListN.{length, get_or}
use Rattle.complex.specs.Facets.{slots}
use Rattle.lists.specs.Words.{none}
use Rattle.complex_mates.specs.Table.{MateTable, Across}
use Rattle.complex_facets.specs.WorkAcross.{Linked}
use Rattle.orientation_walk.specs.WorkSigns as walk
use Rattle.orientation_walk.specs.WorkSteps as steps
use Rattle.orientation_signs.specs.WorkFound.{Searching, Found}
use Rattle.orientation_signs.proofs.Linking.{code, coherent-down, oriented-up, across-in, searching-links}
use Rattle.orientation_signs.proofs.Looking.{looks-are}

module _ (d m : ℕ) (cs : List (List ℕ)) (many : length cs ≡ m) (mates : List ℕ) (t : MateTable d cs mates) (few : m * suc d < none) (o fl : List ℕ) (a : (x : ℕ) → x < m * slots d → Across (slots d) mates o fl x) where
  found : (ok : Bool) (g s g' s' : List ℕ) (looks : ℕ) → walk.Table m (slots d) o fl → m ≤ length g → m ≤ length s → steps.Answer m (slots d) o fl g s g' s' ok looks → Found d cs ok looks g'
  found ok g s g' s' looks tb lg ls r =
      record {
        yes = λ k. oriented-up d m cs many mates t few o fl a (λ c. get_or g' c 0) (r.yes k);
        no = λ k σ p. r.no k (λ c. code (σ c)) (coherent-down d m cs many mates t few o fl a σ p);
        made = looks-are d m cs many mates t few o fl a ok g s g' s' looks tb lg ls r;
      }

-- what the call gives; k is the number of slots as the code has it
module _ (d m : ℕ) (other flip marks stack : List ℕ) (w : Searching d m other flip marks stack) (k : ℕ) (e : k ≡ slots d) where
  pub searching-found : (ok : Bool) (g' t' : List ℕ) (looks : ℕ) → steps.Answer m k other flip marks stack g' t' ok looks → (cs : List (List ℕ)) → length cs ≡ m → Linked d cs other flip → Found d cs ok looks g'
  searching-found ok g' t' looks r cs many l =
      subst (λ (z : ℕ). walk.Table m z other flip → steps.Answer m z other flip marks stack g' t' ok looks → Found d cs ok looks g') (sym e)
      (λ tb r. found d m cs many l.mates l.table w.few other flip (across-in d m cs many other flip l) ok marks stack g' t' looks tb w.marks_long w.stack_long r) (searching-links d m other flip marks stack w k e) r
