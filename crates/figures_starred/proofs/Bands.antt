-- The signs and the order of 3×1, axis 0 twisted over 1, and of 3×1, axis 0 periodic. Assumes nothing.
use Rattle.refusal.specs.Says.{fine}
use Rattle.std.specs.Prelude.{Ok}
use mathlib.Core.Bool.{true}
use mathlib.Core.List.{List, [], ◌∷◌}
use mathlib.Core.Path.{◌≡◌, refl, sym, ap, ◌∙◌, subst}
use Prim.Native.Nat.{ℕ, zero, suc, ◌<◌, ◌≤◌}
use native.Mathlib.Nat.{le_refl}
use native.Mathlib.Omega.{arith}
use lib.IntN.{pos, negsuc}
use lib.ListN.{length, get_or}
use Rattle.lists.specs.Rows.{cut, flat}
use Rattle.lists.specs.Words.{found_at, first_where}
use Rattle.multiindex.specs.Sort.{insert_by, insert, sort_word}
use Rattle.multiindex.specs.Sign.{Sign, plus, minus, opposite, times}
use Rattle.complex.specs.Cells.{decides, comes_before, placed, place, in_order, cells_of}
use Rattle.complex.specs.Skeleton.{in_colex, edges_of, numbers, keep, border_of}
use Rattle.complex.specs.Facets.{cell_at, facet_at, Mates, Crowded}
use Rattle.orientation_signs.specs.Signs.{Coherent, here, across, Lowest, Oriented}
use Rattle.orientation_signs.proofs.Unique.{forced}
use Rattle.orientation.specs.declared.Coherence.TheVariants as Coherence
use Rattle.orientation.specs.Promise as Orientation
use Rattle.quotient.specs.declared.Grid.{Grid}
use Rattle.quotient.specs.Fold.{product, some}
use Rattle.quotient.specs.Shape.{axis_of, bad_set, check_of, vertices_of}
use Rattle.quotient.specs.Reduce.{rest_at, reflected_by, number_to}
use Rattle.quotient.specs.Points.{from_digits}
use Rattle.grid_words.specs.Cells.{met, grid_cells}
use Rattle.grid_mesh.specs.Words.{glued_cells}
use Rattle.ordering_words.specs.Order.{word_if, word_of, by_cell, IsOrder, AgreeOnFacets}
use Rattle.grid_order.specs.declared.Triangulated.TheVariants as Triangulated
use Rattle.grid_order.specs.Promise.{own_words, words_by_cell, HandsOut, cells_length}
use Rattle.grid_order.specs.Promise as Order
use Rattle.bandsum_line.specs.Grammar.{and_then, after, digits_from, count_from, set_from, glue_from, glued_from, axis_from, axis_at, grid_from, line_ends, ended, read_line}
use Rattle.bandsum_lines.specs.declared.Summary.{Summary}
use Rattle.bandsum_lines.specs.Lines.{lines_of}
use Rattle.bandsum_sums.specs.Promise.{SidesOf, two, Prints, six}
use Rattle.bandsum_sums.specs.Promise.SumsOf.{ordered as told-ordered}
use Rattle.figures_starred.specs.Starred.{band, ring, ring_line}
use Rattle.figures_starred.proofs.Tests.{coherent-by, agree-by, free-by}

abbrev Words : Type 0
Words = List (List ℕ)

-- one facet of two cells of dimension 2
mates : (cs : Words) (c i c' i' : ℕ) → c < length cs → i ≤ 2 → c' < length cs → i' ≤ 2 → (c ≡ c' → ⊥) → facet_at (cell_at cs c) i ≡ facet_at (cell_at cs c') i' → Mates 2 cs c i c' i'
mates cs c i c' i' hc hi hc' hi' ne e =
    record { this = record { some = omega arith; cell = hc; place = hi }; that = record { some = omega arith; cell = hc'; place = hi' }; apart = ne; one = e }

-- ---- 3×1, axis 0 periodic
abbrev ring_cells : Words
ring_cells = (0 ∷ 2 ∷ 3 ∷ []) ∷ (0 ∷ 1 ∷ 4 ∷ []) ∷ (0 ∷ 3 ∷ 4 ∷ []) ∷ (1 ∷ 2 ∷ 5 ∷ []) ∷ (2 ∷ 3 ∷ 5 ∷ []) ∷ (1 ∷ 4 ∷ 5 ∷ []) ∷ []

abbrev ring_words : Words
ring_words = (0 ∷ 1 ∷ 4 ∷ []) ∷ (0 ∷ 3 ∷ 4 ∷ []) ∷ (1 ∷ 2 ∷ 5 ∷ []) ∷ (1 ∷ 4 ∷ 5 ∷ []) ∷ (2 ∷ 0 ∷ 3 ∷ []) ∷ (2 ∷ 5 ∷ 3 ∷ []) ∷ []

abbrev ring_order : Words
ring_order = (2 ∷ 0 ∷ 3 ∷ []) ∷ (0 ∷ 1 ∷ 4 ∷ []) ∷ (0 ∷ 3 ∷ 4 ∷ []) ∷ (1 ∷ 2 ∷ 5 ∷ []) ∷ (2 ∷ 5 ∷ 3 ∷ []) ∷ (1 ∷ 4 ∷ 5 ∷ []) ∷ []

ring-cells : glued_cells ring ≡ ring_cells
unfolding cells_of cut grid_cells met in_order place placed comes_before decides sort_word insert insert_by from_digits product rest_at reflected_by number_to axis_of
ring-cells = refl

ring-words : own_words ring ≡ ring_words
unfolding cut grid_cells met in_order place placed comes_before decides sort_word insert insert_by from_digits product rest_at reflected_by number_to axis_of
ring-words = refl

ring-free : Crowded 2 ring_cells → ⊥
unfolding some
ring-free = free-by 2 ring_cells refl

ring-sign : ℕ → Sign
ring-sign c = get_or (plus ∷ minus ∷ plus ∷ minus ∷ minus ∷ plus ∷ []) c plus

-- the cells with - are not the lowest: facets of two cells lead from them to cell 0
ring-lowest : (c : ℕ) → c < 6 → Lowest 2 ring_cells c → ring-sign c ≡ plus
unfolding ring-sign
ring-lowest zero h l = refl
ring-lowest (suc zero) h l =
    absurd (let x : 1 ≤ 0 = l 0 (across (across here (mates ring_cells 1 1 2 1 (omega arith) (omega arith) (omega arith) (omega arith) (λ e. omega arith) refl)) (mates ring_cells 2 2 0 1 (omega arith) (omega arith) (omega arith) (omega arith) (λ e. omega arith) refl)) in let y : ⊥ = omega arith in y)
ring-lowest (suc (suc zero)) h l = refl
ring-lowest (suc (suc (suc zero))) h l =
    absurd (let x : 3 ≤ 0 = l 0 (across (across here (mates ring_cells 3 0 4 1 (omega arith) (omega arith) (omega arith) (omega arith) (λ e. omega arith) refl)) (mates ring_cells 4 2 0 0 (omega arith) (omega arith) (omega arith) (omega arith) (λ e. omega arith) refl)) in let y : ⊥ = omega arith in y)
ring-lowest (suc (suc (suc (suc zero)))) h l =
    absurd (let x : 4 ≤ 0 = l 0 (across here (mates ring_cells 4 2 0 0 (omega arith) (omega arith) (omega arith) (omega arith) (λ e. omega arith) refl)) in let y : ⊥ = omega arith in y)
ring-lowest (suc (suc (suc (suc (suc zero))))) h l = refl
ring-lowest (suc (suc (suc (suc (suc (suc c)))))) h l = absurd (let y : ⊥ = omega arith in y)

ring-signs : Oriented 2 ring_cells ring-sign
unfolding some ring-sign
ring-signs = record { coherent = coherent-by 2 ring_cells ring-sign refl; lowest = ring-lowest }

pub ring-oriented : Orientation.Ends 2 (glued_cells ring) (length (glued_cells ring)) (Ok (Coherence.Signs 6 18)) (pos 1 ∷ negsuc 0 ∷ pos 1 ∷ negsuc 0 ∷ negsuc 0 ∷ pos 1 ∷ [])
unfolding ring-sign
ring-oriented =
    subst (λ (cs : Words). Orientation.Ends 2 cs (length cs) (Ok (Coherence.Signs 6 18)) (pos 1 ∷ negsuc 0 ∷ pos 1 ∷ negsuc 0 ∷ negsuc 0 ∷ pos 1 ∷ [])) (sym ring-cells)
    (Orientation.signed ring-free ring-sign ring-signs (le_refl 6))

each-ring : (c : ℕ) → c < 6 → sort_word (word_of ring_words (cell_at ring_cells c)) ≡ cell_at ring_cells c
unfolding word_if word_of sort_word insert insert_by
each-ring zero h = refl
each-ring (suc zero) h = refl
each-ring (suc (suc zero)) h = refl
each-ring (suc (suc (suc zero))) h = refl
each-ring (suc (suc (suc (suc zero)))) h = refl
each-ring (suc (suc (suc (suc (suc zero))))) h = refl
each-ring (suc (suc (suc (suc (suc (suc c)))))) h = absurd (let y : ⊥ = omega arith in y)

ring-by : by_cell ring_words ring_cells ≡ ring_order
unfolding by_cell word_if word_of sort_word insert insert_by
ring-by = refl

ring-agree : AgreeOnFacets 2 ring_cells ring_order
unfolding some
ring-agree = agree-by 2 ring_cells ring_order refl

-- the words by cell, in numbers
by-words : (g : Grid) (cs ws ks : Words) → glued_cells g ≡ cs → own_words g ≡ ws → by_cell ws cs ≡ ks → words_by_cell g ≡ ks
by-words g cs ws ks e f h = ap (λ (x : Words). by_cell x (glued_cells g)) f ∙ ap (by_cell ws) e ∙ h

ring-hands-out : HandsOut ring
ring-hands-out =
    record {
      order = subst (λ (cs : Words). IsOrder cs (own_words ring)) (sym ring-cells) (subst (IsOrder ring_cells) (sym ring-words) (record { many = refl; each = each-ring }));
      agree = subst (λ (ks : Words). AgreeOnFacets 2 (glued_cells ring) ks) (sym (by-words ring ring_cells ring_words ring_order ring-cells ring-words ring-by)) (subst (λ (cs : Words). AgreeOnFacets 2 cs ring_order) (sym ring-cells) ring-agree);
    }

pub ring-ordered : Order.Ends ring (cells_length ring) (cells_length ring) (Ok (Triangulated.Ordered 6)) (record { cells = flat (glued_cells ring); order = flat ring_order })
ring-ordered =
    subst (λ (n : ℕ). Order.Ends ring (cells_length ring) (cells_length ring) (Ok (Triangulated.Ordered n)) (record { cells = flat (glued_cells ring); order = flat ring_order })) (ap length ring-cells)
    (subst (λ (ks : Words). Order.Ends ring (cells_length ring) (cells_length ring) (Ok (Triangulated.Ordered (length (glued_cells ring)))) (record { cells = flat (glued_cells ring); order = flat ks })) (by-words ring ring_cells ring_words ring_order ring-cells ring-words ring-by)
    (Order.ordered (subst (λ (cs : Words). Crowded 2 cs → ⊥) (sym ring-cells) ring-free) ring-hands-out (le_refl _) (le_refl _)))

ring-taken : check_of ring ≡ fine
unfolding check_of first_where found_at bad_set some axis_of product
ring-taken = refl

ring-read : read_line ring_line ≡ Ok ring
unfolding read_line ended line_ends grid_from axis_at axis_from glued_from glue_from set_from count_from digits_from after and_then
ring-read = refl

abbrev ring_summary : Words → Summary
ring_summary cs = record { cells = length cs; vertices = vertices_of ring; edges = length (edges_of cs); border = length (border_of 2 cs); sides = 2; ordered = true }

ring-summary : ring_summary ring_cells ≡ record { cells = 6; vertices = 6; edges = 12; border = 6; sides = 2; ordered = true }
unfolding in_colex place placed comes_before decides numbers keep product axis_of
ring-summary = refl

ring-two : SidesOf ring 2
ring-two = two ring-sign (subst (λ (cs : Words). Coherent 2 cs ring-sign) (sym ring-cells) ring-signs.coherent)

pub ring-prints : Prints ring_line (lines_of (record { cells = 6; vertices = 6; edges = 12; border = 6; sides = 2; ordered = true }))
ring-prints =
    subst (λ (s : Summary). Prints ring_line (lines_of s)) (ap ring_summary ring-cells ∙ ring-summary)
    (six ring-read (told-ordered (record { taken = ring-taken; free = subst (λ (cs : Words). Crowded 2 cs → ⊥) (sym ring-cells) ring-free }) ring-two ring-hands-out))

-- ---- 3×1, axis 0 twisted over 1
abbrev band_cells : Words
band_cells = (0 ∷ 2 ∷ 3 ∷ []) ∷ (0 ∷ 1 ∷ 4 ∷ []) ∷ (0 ∷ 3 ∷ 4 ∷ []) ∷ (0 ∷ 2 ∷ 5 ∷ []) ∷ (1 ∷ 2 ∷ 5 ∷ []) ∷ (1 ∷ 4 ∷ 5 ∷ []) ∷ []

abbrev band_words : Words
band_words = (0 ∷ 1 ∷ 4 ∷ []) ∷ (0 ∷ 3 ∷ 4 ∷ []) ∷ (1 ∷ 2 ∷ 5 ∷ []) ∷ (1 ∷ 4 ∷ 5 ∷ []) ∷ (2 ∷ 3 ∷ 0 ∷ []) ∷ (2 ∷ 5 ∷ 0 ∷ []) ∷ []

abbrev band_order : Words
band_order = (2 ∷ 3 ∷ 0 ∷ []) ∷ (0 ∷ 1 ∷ 4 ∷ []) ∷ (0 ∷ 3 ∷ 4 ∷ []) ∷ (2 ∷ 5 ∷ 0 ∷ []) ∷ (1 ∷ 2 ∷ 5 ∷ []) ∷ (1 ∷ 4 ∷ 5 ∷ []) ∷ []

band-cells : glued_cells band ≡ band_cells
unfolding cells_of cut grid_cells met in_order place placed comes_before decides sort_word insert insert_by from_digits product rest_at reflected_by number_to axis_of
band-cells = refl

band-words : own_words band ≡ band_words
unfolding cut grid_cells met in_order place placed comes_before decides sort_word insert insert_by from_digits product rest_at reflected_by number_to axis_of
band-words = refl

band-by : by_cell band_words band_cells ≡ band_order
unfolding by_cell word_if word_of sort_word insert insert_by
band-by = refl

band-free : Crowded 2 band_cells → ⊥
unfolding some
band-free = free-by 2 band_cells refl

-- the facet {0,3} is read 3,0 and 0,3
three-zero : Mates 2 band_cells 0 1 2 2
three-zero = mates band_cells 0 1 2 2 (omega arith) (omega arith) (omega arith) (omega arith) (λ e. omega arith) refl

band-differ : AgreeOnFacets 2 band_cells band_order → ⊥
band-differ a = let e : ◌≡◌ {A = List ℕ} (3 ∷ 0 ∷ []) (0 ∷ 3 ∷ []) = a.one 0 1 2 2 three-zero in let z : ◌≡◌ {A = ℕ} 3 0 = ap (λ (l : List ℕ). get_or l 0 0) e in omega arith

band-no-order : HandsOut band → ⊥
band-no-order h =
    band-differ (subst (λ (ks : Words). AgreeOnFacets 2 band_cells ks) (by-words band band_cells band_words band_order band-cells band-words band-by) (subst (λ (cs : Words). AgreeOnFacets 2 cs (words_by_cell band)) band-cells h.agree))

pub band-ordered : Order.Ends band (cells_length band) (cells_length band) (Ok (Triangulated.Unordered 6)) (record { cells = flat (glued_cells band); order = flat [] })
band-ordered =
    subst (λ (n : ℕ). Order.Ends band (cells_length band) (cells_length band) (Ok (Triangulated.Unordered n)) (record { cells = flat (glued_cells band); order = [] })) (ap length band-cells)
    (Order.unordered (subst (λ (cs : Words). Crowded 2 cs → ⊥) (sym band-cells) band-free) band-no-order (le_refl _))

-- round the band each sign forces the next, and the first comes back turned
turned : (a : Sign) → a ≡ opposite a → ⊥
turned plus e = let z : ◌≡◌ {A = ℕ} 0 1 = cc in omega arith
turned minus e = let z : ◌≡◌ {A = ℕ} 0 1 = cc in omega arith

round : (a b c d e f : Sign) → c ≡ times (opposite (times a minus)) plus → b ≡ times (opposite (times c minus)) minus → f ≡ times (opposite (times b plus)) plus → e ≡ times (opposite (times f minus)) minus → d ≡ times (opposite (times e plus)) plus → a ≡ times (opposite (times d plus)) plus → a ≡ opposite a
round a b c d e f p q r s t u = u ∙ ap (λ (x : Sign). times (opposite (times x plus)) plus) (t ∙ ap (λ (x : Sign). times (opposite (times x plus)) plus) (s ∙ ap (λ (x : Sign). times (opposite (times x minus)) minus) (r ∙ ap (λ (x : Sign). times (opposite (times x plus)) plus) (q ∙ ap (λ (x : Sign). times (opposite (times x minus)) minus) p)))) ∙ last a
  where
    last : (a : Sign) → times (opposite (times (times (opposite (times (times (opposite (times (times (opposite (times (times (opposite (times (times (opposite (times a minus)) plus) minus)) minus) plus)) plus) minus)) minus) plus)) plus) plus)) plus ≡ opposite a
    last plus = refl
    last minus = refl

band-no-signs : (σ : ℕ → Sign) → Coherent 2 band_cells σ → ⊥
band-no-signs σ w =
    turned (σ 0)
    (round (σ 0) (σ 1) (σ 2) (σ 3) (σ 4) (σ 5)
    (forced (σ 0) (σ 2) minus plus (w.opposed 0 1 2 2 three-zero))
    (forced (σ 2) (σ 1) minus minus (w.opposed 2 1 1 1 (mates band_cells 2 1 1 1 (omega arith) (omega arith) (omega arith) (omega arith) (λ e. omega arith) refl)))
    (forced (σ 1) (σ 5) plus plus (w.opposed 1 0 5 2 (mates band_cells 1 0 5 2 (omega arith) (omega arith) (omega arith) (omega arith) (λ e. omega arith) refl)))
    (forced (σ 5) (σ 4) minus minus (w.opposed 5 1 4 1 (mates band_cells 5 1 4 1 (omega arith) (omega arith) (omega arith) (omega arith) (λ e. omega arith) refl)))
    (forced (σ 4) (σ 3) plus plus (w.opposed 4 0 3 0 (mates band_cells 4 0 3 0 (omega arith) (omega arith) (omega arith) (omega arith) (λ e. omega arith) refl)))
    (forced (σ 3) (σ 0) plus plus (w.opposed 3 2 0 2 (mates band_cells 3 2 0 2 (omega arith) (omega arith) (omega arith) (omega arith) (λ e. omega arith) refl))))

pub band-oriented : Orientation.Ends 2 (glued_cells band) (length (glued_cells band)) (Ok (Coherence.OneSided 15)) []
unfolding first_where found_at
band-oriented = subst (λ (cs : Words). Orientation.Ends 2 cs (length cs) (Ok (Coherence.OneSided 15)) []) (sym band-cells) (Orientation.one_sided band-free band-no-signs)
