-- The work step by step: the facets that one pass found, their records, and what the order's words say of them. Assumes nothing.
use Rattle.refusal.specs.declared.Refusal.TheVariants.{BadOrder, CrowdedFacet, TooShort}
use Rattle.refusal.specs.Says.{Counted}
use Rattle.std.specs.Prelude.{Err, Ok, Option, Some, None}
use mathlib.Core.Bool.{Bool, true, false}
use mathlib.Core.List.{List, [], ◌++◌}
use mathlib.Core.Path.{◌≡◌, refl, sym, ap, ◌∙◌, subst}
use Prim.Native.Nat.{ℕ, zero, suc, ◌+◌, ◌-◌, ◌*◌, ◌/◌, ◌<◌, ◌≤◌}
use native.Mathlib.Nat.{le_refl, mul-zero, mul-le-mul_left, div-lt_iff_lt-mul}
use native.Mathlib.Numerals.{add-one}
use native.Mathlib.Decide.{ℕ_discrete}
use native.Mathlib.Omega.{arith}
use lib.ListN.{length, get_or, take, drop, length-append, length-drop}
use lib.Seq.{length-take-le, take_at}
use borrow.Author.Tests.{eq-eqb, ne_eqb}
use Rattle.refusal.specs.Limits.{many_corners}
use Rattle.refusal.specs.Lent.{onto}
use Rattle.lists.specs.Rows.{cut, flat}
use Rattle.lists.specs.Words.{same_word, none}
use Rattle.lists.proofs.Rows.{cut-length}
use Rattle.sorting.specs.Gather.{rows_of}
use Rattle.sorting.proofs.Rows.{rows_of-pos}
use Rattle.complex.specs.Cells.{cells_of}
use Rattle.complex.specs.Facets.{Cells, Crowded, slots}
use Rattle.complex.specs.Skeleton.{facets_of, rows_with}
use Rattle.complex_cells.specs.WorkMade.{Made}
use Rattle.complex_cells.proofs.Making.{few-corners}
use Rattle.complex_cells.proofs.Named.{named_flat, named-many}
use Rattle.complex_cells.proofs.Words.{Word}
use Rattle.complex_mates.specs.Table.{Meeting}
use Rattle.complex_mates.proofs.Mated.{not-crowded}
use Rattle.complex_mates.proofs.Meeting.{slots-most}
use Rattle.complex_facets.specs.WorkClasses.{Pass, Found}
use Rattle.complex_facets.specs.Records.{kept_of, one_if, agree_of, records_of}
use Rattle.complex_facets.specs.WorkRecords.{fives, Recording}
use Rattle.complex_facets.proofs.Recording.{records-are}
use Rattle.skeleton.specs.Promise.{GivesBoth, words_short, table_short, both_listed, crowded, rest}
use Rattle.ordering_words.specs.Order.{words_by, Orders}
use Rattle.ordering_words.specs.WorkArrange.{Arranged}
use Rattle.ordering_words.proofs.Lists.{made_again}
use Rattle.ordering.specs.WorkAgree.{row_word}
use Rattle.ordering.specs.Promise.{Preparing, Ready}
use Rattle.ordering.proofs.Agreeing.{row_word_lem}
use Rattle.ordering.proofs.Ends.{count-ready}
use Rattle.ordering.proofs.Steps as steps
use Rattle.ordering_records.specs.Promise.{unordered, ordered}
use Rattle.ordering_records.specs.Work.{one_or, agree_at, tagged, Tagging, Handing, WorkedWith}
use Rattle.ordering_records.proofs.Tags.{each_long, set_all}

-- ---- handing out
positive : (f n z : ℕ) → 0 < f → f ≤ n * z → 0 < z
positive f n zero l g = absurd (omega (arith, mul-zero n))
positive f n (suc z) l g = omega arith

module _ (d at m f : ℕ) (keys reps others : List ℕ) (w : Handing d at m f keys reps others) where
  abbrev cs : List Word
  cs = cells_of d w.ws

  abbrev ks : List Word
  ks = words_by d (cells_of d w.ws) w.order

  short : length w.ws < many_corners
  short = omega (arith, few-corners d w.ws w.passed)

  some : 0 < f → 0 < slots d
  some l = positive f (length cs) (slots d) l w.pass.classes.most

  pub few-facets : f * d < 4294967296
  few-facets = w.pass.classes.named.rows.fits

  pub fives-small : f * 5 < 4294967296
  fives-small = omega (arith, w.most, short)

  pub count_small : f < 4294967296
  count_small = omega (arith, w.most, short)

  pub rows_inside : (i : ℕ) → i < f → get_or reps i 0 * d + d ≤ length (take at keys)
  rows_inside = w.pass.classes.named.rows.inside

  pub reps_long : f ≤ length reps
  reps_long = w.pass.classes.named.rows.long

  pub recording : (k : ℕ) → k ≡ slots d → (records : List ℕ) → f * 5 ≤ length records → Recording d k f reps others records
  recording k e records h =
      record {
        some = λ l. rw e (some l);
        few = rw e (slots-most d);
        dim = omega (arith, w.passed.small);
        in_reps = reps_long;
        in_others = w.pass.classes.long;
        room = h;
      }

  size_small : m * (d + 1) < many_corners
  size_small = omega (arith, ap (λ (x : ℕ). x * (d + 1)) w.many, ap (λ (x : ℕ). length cs * x) (add-one d), w.ready.most, short)

  pub tagging : (k : ℕ) → k ≡ slots d → (list : List ℕ) → list ≡ drop at keys → (records : List ℕ) → f * 5 ≤ length records → Tagging d k m list f reps others records
  tagging k e list g records h =
      record {
        in_reps = reps_long;
        in_others = w.pass.classes.long;
        room = h;
        asked =
            λ i l s.
            let u = w.pass.meet i l s in
            record {
              some = rw e (some (omega arith));
              few = omega (arith, e, slots-most d);
              cell = rw (e, w.many) u.this.cell;
              other = rw (e, w.many) u.that.cell;
              long = rw g (omega (arith, length-drop at keys, w.long));
              short = size_small;
              dim = omega (arith, w.passed.small);
            };
      }

  -- a row's word without the vertex that is dropped
  kept : (x : ℕ) → 0 < slots d → x / slots d < length cs → row_word d (slots d) (length cs) (drop at keys) x ≡ kept_of d cs ks x
  kept x z h = row_word_lem d at (length w.ws) cs w.order keys w.rows w.ready short x ((div-lt_iff_lt-mul z).0 h)

  agree-is : (i : ℕ) → i < f → agree_at d (slots d) (length cs) (drop at keys) (get_or reps i 0) (get_or others i 0) ≡ agree_of d cs ks (rows_with d cs (get_or (facets_of d cs) i []))
  agree-is i h =
      let x = get_or reps i 0 in
      let y = get_or others i 0 in
      let z = some (omega arith) in
      elim (ℕ_discrete y none) [
        | yes e ↦
            ap (λ (b : Bool). one_or b (one_if (same_word (row_word d (slots d) (length cs) (drop at keys) x) (row_word d (slots d) (length cs) (drop at keys) y)))) (eq-eqb y none e)
            ∙ sym (ap (agree_of d cs ks) (w.pass.classes.one i h e))
        | no e ↦
            let u = w.pass.meet i h e in
            ap (λ (b : Bool). one_or b (one_if (same_word (row_word d (slots d) (length cs) (drop at keys) x) (row_word d (slots d) (length cs) (drop at keys) y)))) (ne_eqb y none e)
            ∙ ap (λ (v : Word). one_if (same_word v (row_word d (slots d) (length cs) (drop at keys) y))) (kept x z u.this.cell)
            ∙ ap (λ (v : Word). one_if (same_word (kept_of d cs ks x) v)) (kept y z u.that.cell)
            ∙ sym (ap (agree_of d cs ks) (w.pass.classes.two w.ready.free i h e))
      ]

  many : length (facets_of d cs) ≡ f
  many = named-many (facets_of d cs) d f (take at keys) reps w.pass.classes.named

  facets-flat : flat (facets_of d cs) ≡ rows_of (take at keys) d (take f reps)
  facets-flat = named_flat (facets_of d cs) d f (take at keys) reps w.pass.classes.named

  facets-long : length (flat (facets_of d cs)) ≡ f * d
  facets-long = ap length facets-flat ∙ rows_of-pos (take at keys) d reps f f rows_inside (le_refl f) reps_long

  records-long : length (records_of d cs ks) ≡ f * 5
  records-long = each_long d cs ks (facets_of d cs) ∙ ap (λ (n : ℕ). n * 5) many

  pub facets-short : (facets records : List ℕ) → length facets < f * d → WorkedWith d w.ws w.order (Err TooShort) facets facets records records
  facets-short facets records h =
      record { handed = ([], []); ends = rest w.ready.free (ordered w.ready.ordered (words_short (omega (arith, facets-long)))); result = refl; sides = refl }

  pub records_short : (facets records : List ℕ) → length records < f * 5 → WorkedWith d w.ws w.order (Err TooShort) facets facets records records
  records_short facets records h =
      record { handed = ([], []); ends = rest w.ready.free (ordered w.ready.ordered (table_short (omega (arith, records-long)))); result = refl; sides = refl }

  module _ (k : ℕ) (e : k ≡ slots d) (list : List ℕ) (g : list ≡ drop at keys) (records records₁ records₂ : List ℕ) (written : records₁ ≡ fives d k f reps others ++ drop (f * 5) records) (set : records₂ ≡ tagged (λ i. agree_at d k m list (get_or reps i 0) (get_or others i 0)) f records₁) where
    written_is : records₁ ≡ records_of d cs cs ++ drop (f * 5) records
    written_is =
        written ∙ ap (λ (z : ℕ). fives d z f reps others ++ drop (f * 5) records) e
        ∙ ap (λ (l : List ℕ). l ++ drop (f * 5) records) (sym (records-are d cs w.good f (take at keys) reps others w.rows w.pass w.ready.free))

    says : (i : ℕ) → i < length (facets_of d cs) → agree_at d k m list (get_or reps i 0) (get_or others i 0) ≡ agree_of d cs ks (rows_with d cs (get_or (facets_of d cs) i []))
    says i h =
        ap (λ (z : ℕ). agree_at d z m list (get_or reps i 0) (get_or others i 0)) e ∙ ap (λ (z : ℕ). agree_at d (slots d) z list (get_or reps i 0) (get_or others i 0)) w.many
        ∙ ap (λ (l : List ℕ). agree_at d (slots d) (length cs) l (get_or reps i 0) (get_or others i 0)) g ∙ agree-is i (omega (arith, many))

    tagged_is : records₂ ≡ onto (records_of d cs ks) records
    tagged_is =
        set ∙ ap (tagged (λ i. agree_at d k m list (get_or reps i 0) (get_or others i 0)) f) written_is
        ∙ ap (λ (n : ℕ). tagged (λ i. agree_at d k m list (get_or reps i 0) (get_or others i 0)) n (records_of d cs cs ++ drop (f * 5) records)) (sym many)
        ∙ set_all d cs ks (facets_of d cs) (λ i. agree_at d k m list (get_or reps i 0) (get_or others i 0)) says (drop (f * 5) records)
        ∙ ap (λ (n : ℕ). records_of d cs ks ++ drop n records) (sym records-long)

    pub all-handed : (facets facets' : List ℕ) → f * d ≤ length facets → f * 5 ≤ length records → facets' ≡ rows_of (take at keys) d (take f reps) ++ drop (f * d) facets → WorkedWith d w.ws w.order (Ok f) facets facets' records records₂
    all-handed facets facets' h l o =
        record {
          handed = (flat (facets_of d cs), records_of d cs ks);
          ends =
              rest w.ready.free
              (ordered w.ready.ordered
              (subst (λ (n : ℕ). GivesBoth (facets_of d cs) (records_of d cs ks) (length facets) (length records) (Ok n) (flat (facets_of d cs), records_of d cs ks)) many
              (both_listed (omega (arith, facets-long)) (omega (arith, records-long)))));
          result = rw (facets-long, facets-flat) o;
          sides = tagged_is;
        }

-- ---- the work
-- three calls keep a list's length
pub kept-long : (l₃ l₂ l₁ l : List ℕ) → length l₃ ≡ length l₂ → length l₂ ≡ length l₁ → length l₁ ≡ length l → length l₃ ≡ length l
kept-long l₃ l₂ l₁ l a b c = a ∙ b ∙ c

module _ (d at : ℕ) (ws keys rows₀ spare counts : List ℕ) (w : Preparing d at ws keys rows₀ spare counts) (m : ℕ) (keys' rows' spare' counts' : List ℕ) (lk : length keys' ≡ length keys) (lr : length rows' ≡ length rows₀) (ls : length spare' ≡ length spare) (lc : length counts' ≡ length counts) (a : Made d ws m rows')
    (order : List ℕ) (fits : Bool) (ys rows'' spare'' counts'' : List ℕ) (ly : length ys ≡ length (take (length keys' - at) (drop at keys'))) (lr'' : length rows'' ≡ length rows') (ls'' : length spare'' ≡ length spare') (lc'' : length counts'' ≡ length counts') (b : Arranged d m order rows' fits ys rows'') where
  abbrev keys'' : List ℕ
  keys'' = take at keys' ++ (ys ++ drop (length keys' - at) (drop at keys'))

  a'' : Made d ws m rows''
  a'' = made_again d ws m rows' rows'' a b.kept

  pub passing : Meeting d m (length ws) (take at keys'') rows'' spare'' counts'' × (m * slots d * d < 4294967296)
  passing =
      let k = steps.keeps d at ws keys rows₀ spare counts w m keys' rows' spare' counts' lk lr ls lc a order fits ys rows'' spare'' counts'' ly lr'' ls'' lc'' b in
      (k.meeting, k.narrow)

  module _ (said : Option ℕ) (f : ℕ) (p rows''' spare''' counts''' : List ℕ) (lp : length p ≡ length (take at keys'')) (c : Found d (cut (suc d) m rows'') said p spare''' counts''' rows''') where
    -- 7
    pub work-crowded : said ≡ None → (facets records : List ℕ) → WorkedWith d ws order (Err CrowdedFacet) facets facets records records
    work-crowded e facets records =
        record { handed = ([], []); ends = crowded (subst (λ (cs : List Word). Crowded d cs) a''.same (c.no e)); result = refl; sides = refl }

    module _ (e : said ≡ Some f) where
      free : Crowded d (cells_of d ws) → ⊥
      free x = not-crowded d m (cut (suc d) m rows'') (cut-length (suc d) m rows'') rows''' (c.yes f e).mates (omega (arith, a.most, a.corners)) (subst (λ (cs : List Word). Crowded d cs) (sym a''.same) x)

      -- 16
      pub work-unordered : fits ≡ false → (facets records : List ℕ) → WorkedWith d ws order (Err BadOrder) facets facets records records
      work-unordered n facets records =
          record { handed = ([], []); ends = rest free (unordered (λ o. b.none n (subst (λ (cs : List Word). Orders d cs order) (sym a.same) o))); result = refl; sides = refl }

      front : at ≤ length keys''
      front = steps.front_fits d at ws keys rows₀ spare counts w m keys' rows' spare' counts' lk lr ls lc a order fits ys rows'' spare'' counts'' ly lr'' ls'' lc'' b

      p-long : length p ≡ at
      p-long = lp ∙ length-take-le at keys'' front

      the-ready : fits ≡ true → Ready d at (length ws) (cells_of d ws) order (p ++ drop at keys'') rows'''
      the-ready y =
          (count-ready d at (length ws) (cells_of d ws) order (p ++ drop at keys'') rows''' (Ok m)
          (steps.prepared-ready d at ws keys rows₀ spare counts w m keys' rows' spare' counts' lk lr ls lc a order fits ys rows'' spare'' counts'' ly lr'' ls'' lc'' b p rows''' lp (c.yes f e).mates y) m refl).1

      pub keys_long : length (p ++ drop at keys'') ≡ length keys
      keys_long =
          let l : length keys'' ≡ length keys' = length-append (take at keys') (ys ++ drop (length keys' - at) (drop at keys'))
          ∙ omega (arith, length-append ys (drop (length keys' - at) (drop at keys')), length-drop (length keys' - at) (drop at keys'), length-drop at keys', ly, length-take-le (length keys' - at) (drop at keys') (omega (arith, length-drop at keys')), length-take-le at keys' (omega (arith, w.keys_long, w.start)), w.keys_long, w.start) in
          omega (arith, length-append p (drop at keys''), length-drop at keys'', p-long, front)

      pub handing : fits ≡ true → Handing d at m f (p ++ drop at keys'') spare''' counts'''
      handing y =
          record {
            ws = ws;
            order = order;
            rows = rows''';
            passed = w.passed;
            many = sym (ap length (sym a.same) ∙ cut-length (suc d) m rows');
            good = subst (λ (cs : List Word). Cells d cs) a.same a.cells;
            most = omega (arith, (c.yes f e).classes.most, facet-rows, a.most);
            start = omega (arith, keys_long, w.keys_long, w.start);
            small = omega (arith, w.start, a.corners);
            long = omega (arith, keys_long, w.keys_long, w.start, ap (λ (x : ℕ). m * x) (add-one d), a.most);
            pass = subst (λ (l : List ℕ). Pass d (cells_of d ws) f l spare''' counts''' rows''') (sym (take_at p (drop at keys'') at p-long)) (subst (λ (cs : List Word). Pass d cs f p spare''' counts''' rows''') a''.same (c.yes f e));
            ready = the-ready y;
          }
        where
          facet-rows : length (cut (suc d) m rows'') * slots d ≤ m * suc d
          facet-rows = omega (arith, ap (λ (n : ℕ). n * slots d) (cut-length (suc d) m rows''), mul-le-mul_left m (slots-most d))

      -- what is handed out is of these words and this order
      pub handed_out_lem : fits ≡ true → (r : Counted) (facets facets' records records' : List ℕ) → ((v : Handing d at m f (p ++ drop at keys'') spare''' counts''') → WorkedWith d v.ws v.order r facets facets' records records') → WorkedWith d ws order r facets facets' records records'
      unfolding handing
      handed_out_lem y r facets facets' records records' g = g (handing y)
