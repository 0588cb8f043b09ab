-- On every grid with no reflected twisted axis the calls `cell_words` of both modes say the same, and hand out the same words under other names. Only where there is too
-- little room may the first mode say 6 and the other, which tests the room before 6, 12. Assumes nothing.
use Rattle.refusal.specs.declared.Refusal.{Refusal}
use Rattle.refusal.specs.declared.Refusal.TheVariants.{TooManyVertices, TooShort}
use Rattle.refusal.specs.Says.{Counted, fine}
use Rattle.std.specs.Prelude.{Err, Ok}
use mathlib.Core.Path.{◌≡◌, refl, sym, ap, subst, ◌∙◌}
use mathlib.Core.Logic.{inl, inr, ⊎_elim}
use mathlib.Core.List.{List, [], map}
use Prim.Native.Nat.{ℕ, ◌≤◌, ◌<◌}
use native.Mathlib.Omega.{arith}
use lib.ListN.{length, length-map}
use Rattle.refusal.specs.declared.Room.{Room}
use Rattle.refusal.specs.Limits.{most_vertices}
use Rattle.refusal.specs.Lent.{onto, lengths, Roomy}
use Rattle.refusal.specs.Call.{Comes, refused, cramped, ended}
use Rattle.refusal.proofs.Chain.{fine-refused, refused-same}
use Rattle.quotient.specs.declared.Grid.{Grid}
use Rattle.quotient.specs.Shape.{cell_count, vertices_of, check_of}
use Rattle.quotient.specs.Chain.{Untangled}
use Rattle.quotient.proofs.Taken.{taken-vertices}
use Rattle.grid_words.specs.Cells.{flat_words}
use Rattle.grid_mesh.specs.Words.{grid_need}
use Rattle.grid_mesh.specs.Words as First
use Rattle.grid_mesh.proofs.Steps.{words-many}
use Rattle.grid_mesh.proofs.Seven.{untangled-never-seven}
use Rattle.grid_chained.specs.Shape.{shape_of}
use Rattle.grid_chained.specs.Classing.{at, Classes}
use Rattle.grid_chained.proofs.Taken.{shape-fine, shape-six, six_or-shape}
use Rattle.grid_chained.proofs.Counts.{untangled-count}
use Rattle.grid_chained_mesh.specs.Words.{ClassWords, first_twice, Crowd}
use Rattle.grid_chained_mesh.specs.Words as Second
use Rattle.grid_chained_mesh.proofs.Steps.{words-taken}
use Rattle.grid_chained_laws.specs.Same.{SaySame, Renames}
use Rattle.grid_chained_laws.proofs.Words.{names, words-to, words-from, never-four, never-seven}

-- what both calls say and hand out
record Alike (Fits : Type 0) (r r' : Counted) (l l' : List ℕ) : Type 0 where
  said : SaySame Fits r r'
  to : ℕ → ℕ
  from : ℕ → ℕ
  named : l' ≡ map to l
  back : map from (map to l) ≡ l

nothing : (Fits : Type 0) (r r' : Counted) → SaySame Fits r r' → Alike Fits r r' [] []
nothing Fits r r' s = record { said = s; to = λ x. x; from = λ x. x; named = refl; back = refl }

module _ (g : Grid) (untangled : Untangled g) where
  -- ---- on a grid that is taken
  module _ (taken : check_of g ≡ fine) (ws : List ℕ) (w : ClassWords g ws) where
    no-four : first_twice g ws < cell_count g → ⊥
    no-four h =
        let e : first_twice g ws ≡ cell_count g = ap (first_twice g) w.words ∙ never-four g taken untangled (at w.numbers) w.many w.classes.classing in
        omega arith

    pub no_seven : Crowd g ws → ⊥
    no_seven x = never-seven g taken untangled (at w.numbers) w.many w.classes.classing (subst (λ (l : List ℕ). Crowd g l) w.words x)

    named-to : ws ≡ map (names g taken untangled (at w.numbers) w.many w.classes.classing).to (flat_words g)
    named-to = w.words ∙ words-to g taken untangled (at w.numbers) w.many w.classes.classing

    named_back : map (names g taken untangled (at w.numbers) w.many w.classes.classing).from (map (names g taken untangled (at w.numbers) w.many w.classes.classing).to (flat_words g)) ≡ flat_words g
    named_back =
        let k = w.classes.classing in
        ap (map (names g taken untangled (at w.numbers) w.many k).from) (sym (words-to g taken untangled (at w.numbers) w.many k)) ∙ sym (words-from g taken untangled (at w.numbers) w.many k)

    as_long : length ws ≡ length (flat_words g)
    as_long = ap length named-to ∙ length-map (flat_words g) (names g taken untangled (at w.numbers) w.many w.classes.classing).to

  no_six : check_of g ≡ fine → shape_of g ≡ fine → (numbers : List ℕ) (m : ℕ) → Classes g numbers m → most_vertices < m → ⊥
  no_six taken shape numbers m k h =
      let e : m ≡ vertices_of g = untangled-count g shape (at numbers) m k.classing untangled in
      let t : vertices_of g ≤ most_vertices = taken-vertices g taken in
      omega arith

  ends : (Fits : Type 0) (taken : check_of g ≡ fine) (shape : shape_of g ≡ fine) (n : ℕ) (r r' : Counted) (l l' : List ℕ) → First.WordsEnd g n r l → Second.WordsEnd g n r' l' → Alike Fits r r' l l'
  ends Fits taken shape n r r' l l' (First.crowded x) y = absurd (untangled-never-seven g taken untangled x)
  ends Fits taken shape n r r' l l' (First.short f h) (Second.many numbers m k v) = absurd (no_six taken shape numbers m k v)
  ends Fits taken shape n r r' l l' (First.short f h) (Second.twice ws w v) = absurd (no-four taken ws w v)
  ends Fits taken shape n r r' l l' (First.short f h) (Second.crowded ws a v) = absurd (no_seven taken ws a.of v)
  ends Fits taken shape n r r' l l' (First.written f h) (Second.many numbers m k v) = absurd (no_six taken shape numbers m k v)
  ends Fits taken shape n r r' l l' (First.written f h) (Second.twice ws w v) = absurd (no-four taken ws w v)
  ends Fits taken shape n r r' l l' (First.written f h) (Second.crowded ws a v) = absurd (no_seven taken ws a.of v)
  ends Fits taken shape n r r' l l' (First.short f h) (Second.short ws a u v) = nothing Fits (Err TooShort) (Err TooShort) (inl refl)
  ends Fits taken shape n r r' l l' (First.short f h) (Second.written ws a u v) = absurd (let z : ⊥ = omega (arith, as_long taken ws a.of) in z)
  ends Fits taken shape n r r' l l' (First.written f h) (Second.short ws a u v) = absurd (let z : ⊥ = omega (arith, as_long taken ws a.of) in z)
  ends Fits taken shape n r r' l l' (First.written f h) (Second.written ws a u v) =
      record {
        said = inl (ap Ok (words-many g taken));
        to = (names g taken untangled (at a.of.numbers) a.of.many a.of.classes.classing).to;
        from = (names g taken untangled (at a.of.numbers) a.of.many a.of.classes.classing).from;
        named = named-to taken ws a.of;
        back = named_back taken ws a.of;
      }

  -- ---- on a grid that the first mode refuses
  module _ (why : Refusal) (e : check_of g ≡ Err why) where
    not_taken : shape_of g ≡ fine → (ws : List ℕ) → ClassWords g ws → ⊥
    not_taken shape ws w = fine-refused why (sym e ∙ words-taken g shape ws w)

    later : (Fits : Type 0) (shape : shape_of g ≡ fine) (given : ℕ) (r' : Counted) (l' : List ℕ) → Second.WordsEnd g given r' l' → why ≡ TooManyVertices → Alike Fits (Err why) r' [] l'
    later Fits shape given r' l' (Second.many numbers m k h) q = nothing Fits (Err why) (Err TooManyVertices) (inl (ap Err q))
    later Fits shape given r' l' (Second.twice ws w h) q = absurd (not_taken shape ws w)
    later Fits shape given r' l' (Second.crowded ws a h) q = absurd (not_taken shape ws a.of)
    later Fits shape given r' l' (Second.short ws a u v) q = absurd (not_taken shape ws a.of)
    later Fits shape given r' l' (Second.written ws a u v) q = absurd (not_taken shape ws a.of)

    -- a shape that is taken: the first mode's refusal was 6
    only-six : shape_of g ≡ fine → why ≡ TooManyVertices
    only-six shape = ⊎_elim (λ h. h) (λ h. absurd (fine-refused why (h ∙ shape))) (six_or-shape g why e)

    same-refused : (why' : Refusal) → shape_of g ≡ Err why' → why ≡ why'
    same-refused why' f = ⊎_elim (λ h. absurd (fine-refused why' (sym f ∙ sym (shape-six g why e h)))) (λ h. refused-same why why' (h ∙ f)) (six_or-shape g why e)

  module _ (need have : Room) (given : ℕ) where
    calls : {r r' : Counted} {l l' : List ℕ} {s s' : Room} → Comes Err [] (check_of g) need have (First.WordsEnd g given) r l s → Comes Err [] (shape_of g) need have (Second.WordsEnd g given) r' l' s' → Alike (Roomy need have) r r' l l'
    calls (refused {why = why} e) (refused {why = why'} f) = nothing (Roomy need have) (Err why) (Err why') (inl (ap Err (same-refused why e why' f)))
    calls (refused {why = why} e) (cramped f x) = nothing (Roomy need have) (Err why) (Err TooShort) (inr (x, ap Err (only-six why e f), refl))
    calls (refused {why = why} e) (ended {r = r'} {h = l'} f x y) = later why e (Roomy need have) f given r' l' y (only-six why e f)
    calls (cramped e x) (refused {why = why'} f) = absurd (fine-refused why' (sym f ∙ sym (shape-fine g e)))
    calls (cramped e x) (cramped f y) = nothing (Roomy need have) (Err TooShort) (Err TooShort) (inl refl)
    calls (cramped e x) (ended f y z) = absurd (x y)
    calls (ended e x y) (refused {why = why'} f) = absurd (fine-refused why' (sym f ∙ sym (shape-fine g e)))
    calls (ended e x y) (cramped f z) = absurd (z x)
    calls (ended {r = r} {h = l} e x y) (ended {r = r'} {h = l'} f x' z) = ends (Roomy need have) e f given r r' l l' y z

  -- the theorem: both calls on the same lists
  pub both_words : (r r' : Counted) (words w w' keys k k' rows o o' spare p p' counts c c' : List ℕ) → First.CellWords g r words w keys k rows o spare p counts c → Second.CellWords g r' words w' keys k' rows o' spare p' counts c' →
      SaySame (Roomy (grid_need g) (lengths keys rows spare counts)) r r' × Renames words w w'
  both_words r r' words w w' keys k k' rows o o' spare p p' counts c c' a b =
      let t = calls (grid_need g) (lengths keys rows spare counts) (length words) a.comes b.comes in (
        t.said,
        record { to = t.to; from = t.from; handed = a.handed; by_first = a.result; by_second = b.result ∙ ap (λ (l : List ℕ). onto l words) t.named; back = t.back },
      )

  -- with room enough they say the same
  pub same-refusals : (r r' : Counted) (words w w' keys k k' rows o o' spare p p' counts c c' : List ℕ) → First.CellWords g r words w keys k rows o spare p counts c → Second.CellWords g r' words w' keys k' rows o' spare p' counts c' →
      Roomy (grid_need g) (lengths keys rows spare counts) → r ≡ r'
  same-refusals r r' words w w' keys k k' rows o o' spare p p' counts c c' a b h =
      ⊎_elim (λ (e : r ≡ r'). e) (λ (f : (Roomy (grid_need g) (lengths keys rows spare counts) → ⊥) × (r ≡ Err TooManyVertices) × (r' ≡ Err TooShort)). absurd (f.0 h))
      (both_words r r' words w w' keys k k' rows o o' spare p p' counts c c' a b).0
