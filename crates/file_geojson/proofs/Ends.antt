-- The ways out of the call. Assumes nothing.
use Rattle.refusal.specs.declared.Refusal.{Refusal}
use Rattle.refusal.specs.declared.Refusal.TheVariants.{BadLatitudes, CrowdedFacet, OtherGrid, TooShort}
use Rattle.refusal.specs.contracts.RefusalPartialEq.TheImpl.{eq-value}
use Rattle.refusal.specs.Says.{Answer, Counted, fine}
use Rattle.std.specs.Result.{result_eq}
use Rattle.std.specs.Prelude.{Err, Ok}
use mathlib.Core.Path.{◌≡◌, refl, sym, ap, subst, ◌∙◌}
use mathlib.Core.Bool.{Bool, true, false, cond}
use mathlib.Core.List.{List, [], ◌∷◌, ◌++◌, map}
use Prim.Native.Nat.{ℕ, ◌+◌, ◌*◌, ◌≤◌, ◌<◌}
use native.Mathlib.Omega.{arith}
use lib.IntN.{ℤ}
use lib.ListN.{length, length-append}
use Rattle.refusal.specs.declared.Room.{Room}
use Rattle.refusal.specs.Lent.{onto, untouched, lengths, Roomy, Cleared}
use Rattle.refusal.proofs.Chain.{fine-refused}
use Rattle.refusal.specs.Call.{Comes, refused, cramped, ended}
use Rattle.complex.specs.Facets.{Crowded}
use Rattle.quotient.specs.declared.Grid.{Grid}
use Rattle.quotient.specs.Shape.{check_of, cell_count}
use Rattle.grid_words.specs.Cells.{grid_cells}
use Rattle.grid_mesh.specs.Words as Words
use Rattle.grid_mesh.specs.Words.{glued_cells, grid_need, WordsEnd, CellWords}
use Rattle.file_writing.specs.Wrote.{Wrote}
use Rattle.file_writing.proofs.Laws.{wrote-whole, wrote-nowhere, wrote-long}
use Rattle.file_geojson.specs.Words.{opening_word, closing_word}
use Rattle.file_geojson.specs.File.{comma_each, joined, feature_of, features_of, collection_of}
use Rattle.file_geojson.specs.Kind.{band_grid, from_pole, latitudes_fit, Mapped}
use Rattle.file_geojson.specs.Promise.{band_file, Drawn, other, beyond, short, drawn, crowded, plain, GeoJson}
use Rattle.file_geojson.specs.Work.{Asked, Ended}
use Rattle.file_geojson.proofs.Sizes.{feature-long}
use Rattle.file_geojson.proofs.Listing.{cells_long, few-features}
use Rattle.file_geojson.proofs.Poles.{poles-apart}

-- ---- 7, from what `cell_words` says to an empty word list

-- what `==` tells
abbrev pub tells : (ℕ → ℕ → Bool) → Counted → Bool
tells same r = result_eq same eq-value.it r (Err CrowdedFacet)

end-tells : (same : ℕ → ℕ → Bool) (g : Grid) (n : ℕ) (r : Counted) (h : List ℕ) → WordsEnd g n r h → (tells same r ≡ true → Crowded g.d (glued_cells g)) × (tells same r ≡ false → Crowded g.d (glued_cells g) → ⊥)
end-tells same g n r h (Words.crowded x) = (λ e. x, λ e. let z : ◌≡◌ {A = ℕ} 0 1 = ap (λ (b : Bool). cond b 0 1) e in absurd (omega arith))
end-tells same g n r h (Words.short f l) = (λ e. let z : ◌≡◌ {A = ℕ} 0 1 = ap (λ (b : Bool). cond b 1 0) e in absurd (omega arith), λ e. f)
end-tells same g n r h (Words.written f l) = (λ e. let z : ◌≡◌ {A = ℕ} 0 1 = ap (λ (b : Bool). cond b 1 0) e in absurd (omega arith), λ e. f)

never : {X : Type 0} (a : Answer) (why : Refusal) → a ≡ fine → a ≡ Err why → X
never a why e f = absurd (fine-refused why (sym f ∙ e))

comes-tells : (same : ℕ → ℕ → Bool) (g : Grid) (have : Room) (n : ℕ) (r : Counted) (h : List ℕ) (u : Room) → check_of g ≡ fine → Roomy (grid_need g) have →
    Comes Err [] (check_of g) (grid_need g) have (WordsEnd g n) r h u →
    (u ≡ grid_need g) × (tells same r ≡ true → Crowded g.d (glued_cells g)) × (tells same r ≡ false → Crowded g.d (glued_cells g) → ⊥)
comes-tells same g have n r h u e f (refused x) = never (check_of g) _ e x
comes-tells same g have n r h u e f (cramped x y) = absurd (y f)
comes-tells same g have n r h u e f (ended x y w) = let t = end-tells same g n r h w in (refl, t.0, t.1)

pub asked : (same : ℕ → ℕ → Bool) (g : Grid) (r : Counted) (t : Bool) (out out' keys k rows o spare s counts c : List ℕ) → tells same r ≡ t → check_of g ≡ fine →
    Roomy (grid_need g) (lengths keys rows spare counts) → CellWords g r out out' keys k rows o spare s counts c → Asked g t keys k rows o spare s counts c
asked same g r t out out' keys k rows o spare s counts c q e f w =
    let x = comes-tells same g (lengths keys rows spare counts) (length out) r w.handed w.used e f w.comes in
    record { yes = λ h. x.1 (q ∙ h); no = λ h. x.2 (q ∙ h); room = subst (λ (u : Room). Cleared u keys k rows o spare s counts c) x.0 w.room }

-- ---- how long the whole file is at most

module _ (g : Grid) (low high : ℕ) where
  commas-long : (ws : List (List ℕ)) → length (comma_each (map (feature_of g low high) ws)) ≤ 276 * length ws
  unfolding comma_each
  commas-long [] = omega arith
  commas-long (w ∷ ws) =
      omega (arith, commas-long ws, feature-long g low high w, length-append (feature_of g low high w) (comma_each (map (feature_of g low high) ws)))

  joined-long : (ws : List (List ℕ)) → length (joined (map (feature_of g low high) ws)) ≤ 276 * length ws
  unfolding joined
  joined-long [] = omega arith
  joined-long (w ∷ ws) =
      omega (arith, commas-long ws, feature-long g low high w, length-append (feature_of g low high w) (comma_each (map (feature_of g low high) ws)))

  -- 43 bytes for the opening and the closing, and 276 for each cell
  pub file-long : Mapped g low high → length (collection_of g low high) ≤ 43 + 276 * cell_count g
  unfolding collection_of
  file-long m =
      omega (arith, joined-long (grid_cells g), cells_long g low high m, length-append opening_word (joined (features_of g low high) ++ closing_word), length-append (joined (features_of g low high)) closing_word)

  pub collection-long : Mapped g low high → length (collection_of g low high) ≤ 18087979
  collection-long m = omega (arith, file-long m, few-features g low high m)

-- ---- 18, 19, 12, or the file

module _ (g : Grid) (south north : ℤ) (bytes : List ℕ) where
  pub draw-other : band_grid g ≡ false → Ended g south north (Err OtherGrid) bytes bytes
  draw-other e = record { handed = []; ends = other e; result = refl }

  module _ (e : band_grid g ≡ true) where
    pub draw-beyond : latitudes_fit south north ≡ false → Ended g south north (Err BadLatitudes) bytes bytes
    draw-beyond h = record { handed = []; ends = beyond e h; result = refl }

    module _ (h : latitudes_fit south north ≡ true) (low high : ℕ) (el : low ≡ from_pole south) (eh : high ≡ from_pole north) where
      pub mapped : check_of g ≡ fine → Mapped g low high
      mapped f = let t = poles-apart south north h in record { taken = f; band = e; between = omega (arith, t.0); most = omega (arith, t.1) }

      module _ (len : ℕ) (part : List ℕ) (a : Wrote (collection_of g low high) 0 [] len part) where
        none : part ≡ []
        none = a.stored ∙ wrote-nowhere (collection_of g low high) 0

        same : part ++ bytes ≡ bytes
        same = ap (λ (p : List ℕ). p ++ bytes) none

        file : collection_of g low high ≡ band_file g south north
        file = ap (λ (l : ℕ). collection_of g l high) el ∙ ap (λ (t : ℕ). collection_of g (from_pole south) t) eh

        long : len ≡ length (band_file g south north)
        long = wrote-long a ∙ ap length file

        pub draw-short : length (part ++ bytes) < len → Ended g south north (Err TooShort) bytes (part ++ bytes)
        draw-short s = record { handed = []; ends = short e h (omega (arith, long, ap length same)); result = same }

        pub draw-drawn : (r : ℕ) (whole : List ℕ) → len ≤ length (part ++ bytes) → Wrote (collection_of g low high) 0 (part ++ bytes) r whole → Ended g south north (Ok len) bytes whole
        draw-drawn r whole s b =
            let t : length (collection_of g low high) ≤ length bytes = omega (arith, wrote-long a, ap length same) in
            record {
              handed = band_file g south north;
              ends = subst (λ (n : ℕ). Drawn g south north (length bytes) (Ok n) (band_file g south north)) (sym long) (drawn e h (omega (arith, long, wrote-long a)));
              result = wrote-whole t (subst (λ (p : List ℕ). Wrote (collection_of g low high) 0 p r whole) same b) ∙ ap (λ (f : List ℕ). onto f bytes) file;
            }

-- ---- the call

module _ (g : Grid) (south north : ℤ) (out keys rows spare counts : List ℕ) where
  pub out-refused : (why : Refusal) → check_of g ≡ Err why → GeoJson g south north (Err why) out out keys keys rows rows spare spare counts counts
  out-refused why e =
      record { handed = []; used = untouched; comes = refused e; result = refl; room = record { of_keys = refl; of_rows = refl; of_spare = refl; of_counts = refl } }

  module _ (e : check_of g ≡ fine) (n : Room) (q : n ≡ grid_need g) where
    pub out-cramped : (Roomy n (lengths keys rows spare counts) → ⊥) → GeoJson g south north (Err TooShort) out out keys keys rows rows spare spare counts counts
    out-cramped f =
        record {
          handed = [];
          used = untouched;
          comes = cramped e (subst (λ (m : Room). Roomy m (lengths keys rows spare counts) → ⊥) q f);
          result = refl;
          room = record { of_keys = refl; of_rows = refl; of_spare = refl; of_counts = refl };
        }

    module _ (h : Roomy n (lengths keys rows spare counts)) where
      pub roomy : Roomy (grid_need g) (lengths keys rows spare counts)
      roomy = subst (λ (m : Room). Roomy m (lengths keys rows spare counts)) q h

      module _ (t : Bool) (k o s c : List ℕ) (a : Asked g t keys k rows o spare s counts c) where
        pub out-crowded : t ≡ true → GeoJson g south north (Err CrowdedFacet) out out keys k rows o spare s counts c
        out-crowded x = record { handed = []; used = grid_need g; comes = ended e roomy (crowded (a.yes x)); result = refl; room = a.room }

        pub out-drawn : t ≡ false → (r : Counted) (out' : List ℕ) → Ended g south north r out out' → GeoJson g south north r out out' keys k rows o spare s counts c
        out-drawn x r out' d = record { handed = d.handed; used = grid_need g; comes = ended e roomy (plain (a.no x) d.ends); result = d.result; room = a.room }
