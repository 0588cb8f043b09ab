-- The work of `orientation`, step by step: what each call asks follows from what the calls before it gave. Assumes nothing.
use Rattle.refusal.specs.declared.Refusal.TheVariants.{CrowdedFacet, TooShort}
use Rattle.std.specs.Prelude.{Err, Ok}
use mathlib.Core.Bool.{Bool, true, false}
use mathlib.Core.List.{List, [], ◌∷◌, ◌++◌}
use mathlib.Core.Path.{◌≡◌, refl, sym, ap, ◌∙◌, subst}
use Prim.Native.Nat.{ℕ, zero, suc, ◌*◌, ◌<◌, ◌≤◌}
use native.Mathlib.Nat.{mul_comm, mul-zero, suc-mul, mul-suc, mul-le-mul_left, mul-le-mul_right}
use native.Mathlib.Omega.{arith}
use lib.IntN.{ℤ}
use lib.ListN.{length, get_or, take, drop}
use lib.Seq.{length-take-le}
use Rattle.orientation.specs.declared.Coherence.TheVariants.{Signs, OneSided}
use Rattle.lists.specs.Rows.{cut}
use Rattle.complex.specs.Cells.{cells_of}
use Rattle.lists.proofs.Rows.{cut-length}
use Rattle.complex.specs.Facets.{Crowded, slots}
use Rattle.complex_mates.specs.Table.{Meeting}
use Rattle.complex_facets.specs.WorkAcross.{Keeping, Linked}
use Rattle.complex_mates.proofs.Meeting.{slots-most}
use Rattle.complex_cells.specs.WorkMade.{Making, Made}
use Rattle.multiindex.specs.Sign.{Sign, sign_number}
use Rattle.orientation_signs.specs.Signs.{Coherent, Oriented, sign_list}
use Rattle.orientation_signs.specs.Looks.{looks_of}
use Rattle.orientation_signs.specs.WorkFound.{sign_of, mark_number, handed_out, Searching, Found}
use Rattle.complex_mates.proofs.Mated.{not-crowded}
use Rattle.orientation_signs.proofs.Whole.{looks-whole}
use Rattle.complex.specs.Room.{key_room}
use Rattle.orientation.specs.Promise.{Ends, crowded, one_sided, short, signed}
use Rattle.orientation.specs.Work.{Furnished, Working, Worked}

pub room-least : (d n : ℕ) → n ≤ key_room d n
room-least zero n = omega arith
room-least (suc d) n = omega (arith, suc-mul d n)

room-rows : (d m n : ℕ) → m * suc d ≤ n → m * slots d * d ≤ key_room d n
room-rows zero m n h = omega (arith, mul-zero (m * 0))
room-rows (suc d) m n h = omega (arith, mul-le-mul_right (suc d) h, mul_comm n (suc d))

-- ---- the sign list
pub length-signs : (σ : ℕ → Sign) (n : ℕ) → length (sign_list σ n) ≡ n
length-signs σ zero = refl
length-signs σ (suc n) = ap suc (length-signs (λ c. σ (suc c)) n)

number-sign : (n : ℕ) → mark_number n ≡ sign_number (sign_of n)
number-sign zero = refl
number-sign (suc zero) = refl
number-sign (suc (suc n)) = refl

pub handed-signs : (marks : List ℕ) (m : ℕ) → m ≤ length marks → handed_out (take m marks) ≡ sign_list (λ c. sign_of (get_or marks c 0)) m
handed-signs marks zero h = refl
handed-signs [] (suc m) h = absurd (omega arith)
handed-signs (x ∷ xs) (suc m) h =
    let e : mark_number x ≡ sign_number (sign_of x) = number-sign x in
    let r : handed_out (take m xs) ≡ sign_list (λ c. sign_of (get_or xs c 0)) m = handed-signs xs m (omega arith) in
    cc

-- there are no more cells than corners
pub cells_fit : (d : ℕ) (ws : List ℕ) (m : ℕ) (rows : List ℕ) → Made d ws m rows → m < 4294967296
cells_fit d ws m rows a = omega (arith, a.most, a.corners, mul-suc m d)

-- where there is room for the facet rows, a pass over them can be made
module _ (d : ℕ) (ws keys rows spare counts : List ℕ) (w : Working d ws keys rows spare counts) (m : ℕ) (keys' rows' spare' counts' : List ℕ) (lk : length keys' ≡ length keys) (lr : length rows' ≡ length rows) (ls : length spare' ≡ length spare) (lc : length counts' ≡ length counts) (a : Made d ws m rows') where
  pub meeting : Meeting d m (length ws) keys' rows' spare' counts'
  meeting =
      record {
        cells = a.cells;
        rows_long = omega (arith, a.most, w.rows_long);
        keys_long = omega (arith, room-rows d m (length ws) a.most, w.keys_long);
        spare_long = omega (arith, a.most, w.spare_long);
        counts_long = omega (arith, a.most, w.counts_long);
        buckets = omega (arith, w.counts_long);
        few = omega (arith, a.most, a.corners);
        small = omega (arith, w.passed.small);
        below = a.below;
      }

module _ (d : ℕ) (ws keys rows spare counts : List ℕ) (w : Furnished d ws keys rows spare counts) where
  pub making : Making d ws keys rows spare counts
  making =
      record {
        passed = w.passed;
        keys_long = omega (arith, w.keys_long);
        rows_long = omega (arith, w.rows_long);
        spare_long = omega (arith, w.spare_long);
        counts_long = omega (arith, w.counts_long);
      }

  module _ (m : ℕ) (keys' rows' spare' counts' : List ℕ) (lk : length keys' ≡ length keys) (lr : length rows' ≡ length rows) (ls : length spare' ≡ length spare) (lc : length counts' ≡ length counts) (a : Made d ws m rows') where
    -- there are no more facet rows than corners, and five numbers are enough for one in every dimension up to 5
    slots-fit : m * slots d ≤ length ws
    slots-fit = omega (arith, mul-le-mul_left m (slots-most d), a.most)

    rows_fit : m * slots d * d ≤ m * slots d * 5
    rows_fit = mul-le-mul_left (m * slots d) (omega (arith, w.passed.small))

    pub keeping : Keeping d m (length ws) keys' rows' spare' counts'
    keeping =
        record {
          meeting =
              record {
                cells = a.cells;
                rows_long = omega (arith, a.most, w.rows_long);
                keys_long = omega (arith, rows_fit, slots-fit, w.keys_long);
                spare_long = omega (arith, a.most, w.spare_long);
                counts_long = omega (arith, a.most, w.counts_long);
                buckets = omega (arith, w.counts_long);
                few = omega (arith, a.most, a.corners);
                small = omega (arith, w.passed.small);
                below = a.below;
              };
          narrow = omega (arith, rows_fit, slots-fit, a.corners);
          room = omega (arith, slots-fit, w.keys_long);
        }

    cells-many : length (cells_of d ws) ≡ m
    cells-many = ap length (sym a.same) ∙ cut-length (suc d) m rows'

    -- 7
    pub worked-crowded : (out : List ℤ) → Crowded d (cut (suc d) m rows') → Worked d ws (Err CrowdedFacet) out out
    worked-crowded out x = record { handed = []; ends = crowded (subst (λ (cs : List (List ℕ)). Crowded d cs) a.same x); result = refl }

    module _ (keys'' rows'' spare'' counts'' : List ℕ) (lk'' : length keys'' ≡ length keys') (lr'' : length rows'' ≡ length rows') (ls'' : length spare'' ≡ length spare') (lc'' : length counts'' ≡ length counts') (t : Linked d (cut (suc d) m rows') rows'' spare'') where
      pub searching : Searching d m rows'' spare'' counts'' keys''
      searching =
          record {
            cs = cut (suc d) m rows';
            many = cut-length (suc d) m rows';
            linked = t;
            other_long = omega (arith, slots-fit, w.rows_long);
            flip_long = omega (arith, slots-fit, w.spare_long);
            marks_long = omega (arith, a.most, mul-suc m d, w.counts_long);
            stack_long = omega (arith, a.most, mul-suc m d, w.keys_long);
            few = omega (arith, a.most, a.corners);
            small = omega (arith, w.passed.small);
          }

      free : Crowded d (cells_of d ws) → ⊥
      free x = not-crowded d m (cut (suc d) m rows') (cut-length (suc d) m rows') t.mates t.table (omega (arith, a.most, a.corners)) (subst (λ (cs : List (List ℕ)). Crowded d cs) (sym a.same) x)

      module _ (ok : Bool) (looks : ℕ) (marks : List ℕ) (lm : length marks ≡ length counts'') (f : (cs : List (List ℕ)) → length cs ≡ m → Linked d cs rows'' spare'' → Found d cs ok looks marks) where
        f' : Found d (cut (suc d) m rows') ok looks marks
        f' = f (cut (suc d) m rows') (cut-length (suc d) m rows') t

        looks-made : looks ≡ looks_of d (cells_of d ws)
        looks-made = f'.made ∙ ap (looks_of d) a.same

        -- 13
        pub worked-one-sided : (out : List ℤ) → ok ≡ false → Worked d ws (Ok (OneSided looks)) out out
        worked-one-sided out e =
            subst (λ (n : ℕ). Worked d ws (Ok (OneSided n)) out out) (sym looks-made)
            (record { handed = []; ends = one_sided free (λ σ p. f'.no e σ (subst (λ (cs : List (List ℕ)). Coherent d cs σ) (sym a.same) p)); result = refl })

        signs_are : ok ≡ true → Oriented d (cells_of d ws) (λ c. sign_of (get_or marks c 0))
        signs_are e = subst (λ (cs : List (List ℕ)). Oriented d cs (λ c. sign_of (get_or marks c 0))) a.same (f'.yes e)

        -- 12
        pub worked-short : (out : List ℤ) → ok ≡ true → length out < m → Worked d ws (Err TooShort) out out
        worked-short out e h = record { handed = []; ends = short free (λ c. sign_of (get_or marks c 0)) (signs_are e) (omega (arith, cells-many)); result = refl }

        pub marks_long : m ≤ length marks
        marks_long = omega (arith, a.most, mul-suc m d, w.counts_long)

        -- the signs
        pub worked-signed : (out part : List ℤ) → ok ≡ true → m ≤ length out → part ≡ handed_out (take (length (take m out)) marks) → Worked d ws (Ok (Signs m looks)) out (part ++ drop m out)
        worked-signed out part e h p =
            subst (λ (n : ℕ). Worked d ws (Ok (Signs m n)) out (part ++ drop m out)) (sym (looks-made ∙ looks-whole d (cells_of d ws) (λ c. sign_of (get_or marks c 0)) (signs_are e) free))
            (record {
              handed = sign_list (λ c. sign_of (get_or marks c 0)) (length (cells_of d ws));
              ends = subst (λ (n : ℕ). Ends d (cells_of d ws) (length out) (Ok (Signs n (length (cells_of d ws) * slots d))) (sign_list (λ c. sign_of (get_or marks c 0)) (length (cells_of d ws)))) cells-many
                  (signed free (λ c. sign_of (get_or marks c 0)) (signs_are e) (omega (arith, cells-many)));
              result = rw (cells-many, length-signs (λ c. sign_of (get_or marks c 0)) m, p, length-take-le m out h, handed-signs marks m marks_long);
            })
