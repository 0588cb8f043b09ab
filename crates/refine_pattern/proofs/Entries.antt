-- The table is the six patterns of the stepping rule: one computed test, and from it what each entry is. Assumes nothing.
use mathlib.Core.Path.{◌≡◌, refl, sym, ap, ◌∙◌}
use mathlib.Core.List.{List, [], ◌∷◌, map, Memᴰ}
use Prim.Native.Nat.{ℕ, zero, suc, ◌+◌, ◌*◌, ◌-◌, ◌/◌, ◌%◌, ◌^◌, ◌≤◌, ◌<◌}
use native.Mathlib.Omega.{arith}
use lib.ListN.{length, get_or, take, drop}
use lib.Seq.{get_or-take, get_or-drop}
use Rattle.lists.proofs.Laws.{map_at}
use Rattle.refine_lattice.specs.Pattern.{pattern_of}
use Rattle.refine_lattice.proofs.Pattern.{added, row-long, row-sum, row_count}
use Rattle.refine_pattern.specs.Table.{packed, unpacked, ready_corners, InTable, Begins}
use Rattle.refine_pattern.proofs.Chains.{mem-get_or}

-- the numbers of the table
unfoldable pub numbers : List ℕ
numbers =
    2 ∷ 17 ∷ 257 ∷ 17 ∷ 257 ∷ 272 ∷ 17 ∷ 32 ∷ 272 ∷ 257 ∷ 272 ∷ 512 ∷
    3 ∷ 18 ∷ 258 ∷ 18 ∷ 258 ∷ 273 ∷ 18 ∷ 33 ∷ 273 ∷ 33 ∷ 273 ∷ 288 ∷
    33 ∷ 48 ∷ 288 ∷ 258 ∷ 273 ∷ 513 ∷ 273 ∷ 513 ∷ 528 ∷ 273 ∷ 288 ∷ 528 ∷
    513 ∷ 528 ∷ 768 ∷ 4 ∷ 19 ∷ 259 ∷ 19 ∷ 259 ∷ 274 ∷ 19 ∷ 34 ∷ 274 ∷
    34 ∷ 274 ∷ 289 ∷ 34 ∷ 49 ∷ 289 ∷ 49 ∷ 289 ∷ 304 ∷ 49 ∷ 64 ∷ 304 ∷
    259 ∷ 274 ∷ 514 ∷ 274 ∷ 514 ∷ 529 ∷ 274 ∷ 289 ∷ 529 ∷ 289 ∷ 529 ∷ 544 ∷
    289 ∷ 304 ∷ 544 ∷ 514 ∷ 529 ∷ 769 ∷ 529 ∷ 769 ∷ 784 ∷ 529 ∷ 544 ∷ 784 ∷
    769 ∷ 784 ∷ 1024 ∷ 2 ∷ 17 ∷ 257 ∷ 4097 ∷ 17 ∷ 257 ∷ 4097 ∷ 4112 ∷ 17 ∷
    257 ∷ 272 ∷ 4112 ∷ 17 ∷ 32 ∷ 272 ∷ 4112 ∷ 257 ∷ 4097 ∷ 4112 ∷ 4352 ∷ 257 ∷
    272 ∷ 4112 ∷ 4352 ∷ 257 ∷ 272 ∷ 512 ∷ 4352 ∷ 4097 ∷ 4112 ∷ 4352 ∷ 8192 ∷ 3 ∷
    18 ∷ 258 ∷ 4098 ∷ 18 ∷ 258 ∷ 4098 ∷ 4113 ∷ 18 ∷ 258 ∷ 273 ∷ 4113 ∷ 18 ∷
    33 ∷ 273 ∷ 4113 ∷ 33 ∷ 273 ∷ 4113 ∷ 4128 ∷ 33 ∷ 273 ∷ 288 ∷ 4128 ∷ 33 ∷
    48 ∷ 288 ∷ 4128 ∷ 258 ∷ 4098 ∷ 4113 ∷ 4353 ∷ 258 ∷ 273 ∷ 4113 ∷ 4353 ∷ 258 ∷
    273 ∷ 513 ∷ 4353 ∷ 273 ∷ 4113 ∷ 4353 ∷ 4368 ∷ 273 ∷ 513 ∷ 4353 ∷ 4368 ∷ 273 ∷
    4113 ∷ 4128 ∷ 4368 ∷ 273 ∷ 288 ∷ 4128 ∷ 4368 ∷ 273 ∷ 513 ∷ 528 ∷ 4368 ∷ 273 ∷
    288 ∷ 528 ∷ 4368 ∷ 513 ∷ 4353 ∷ 4368 ∷ 4608 ∷ 513 ∷ 528 ∷ 4368 ∷ 4608 ∷ 513 ∷
    528 ∷ 768 ∷ 4608 ∷ 4098 ∷ 4113 ∷ 4353 ∷ 8193 ∷ 4113 ∷ 4353 ∷ 8193 ∷ 8208 ∷ 4113 ∷
    4353 ∷ 4368 ∷ 8208 ∷ 4113 ∷ 4128 ∷ 4368 ∷ 8208 ∷ 4353 ∷ 8193 ∷ 8208 ∷ 8448 ∷ 4353 ∷
    4368 ∷ 8208 ∷ 8448 ∷ 4353 ∷ 4368 ∷ 4608 ∷ 8448 ∷ 8193 ∷ 8208 ∷ 8448 ∷ 12288 ∷ 4 ∷
    19 ∷ 259 ∷ 4099 ∷ 19 ∷ 259 ∷ 4099 ∷ 4114 ∷ 19 ∷ 259 ∷ 274 ∷ 4114 ∷ 19 ∷
    34 ∷ 274 ∷ 4114 ∷ 34 ∷ 274 ∷ 4114 ∷ 4129 ∷ 34 ∷ 274 ∷ 289 ∷ 4129 ∷ 34 ∷
    49 ∷ 289 ∷ 4129 ∷ 49 ∷ 289 ∷ 4129 ∷ 4144 ∷ 49 ∷ 289 ∷ 304 ∷ 4144 ∷ 49 ∷
    64 ∷ 304 ∷ 4144 ∷ 259 ∷ 4099 ∷ 4114 ∷ 4354 ∷ 259 ∷ 274 ∷ 4114 ∷ 4354 ∷ 259 ∷
    274 ∷ 514 ∷ 4354 ∷ 274 ∷ 4114 ∷ 4354 ∷ 4369 ∷ 274 ∷ 514 ∷ 4354 ∷ 4369 ∷ 274 ∷
    4114 ∷ 4129 ∷ 4369 ∷ 274 ∷ 289 ∷ 4129 ∷ 4369 ∷ 274 ∷ 514 ∷ 529 ∷ 4369 ∷ 274 ∷
    289 ∷ 529 ∷ 4369 ∷ 289 ∷ 4129 ∷ 4369 ∷ 4384 ∷ 289 ∷ 529 ∷ 4369 ∷ 4384 ∷ 289 ∷
    4129 ∷ 4144 ∷ 4384 ∷ 289 ∷ 304 ∷ 4144 ∷ 4384 ∷ 289 ∷ 529 ∷ 544 ∷ 4384 ∷ 289 ∷
    304 ∷ 544 ∷ 4384 ∷ 514 ∷ 4354 ∷ 4369 ∷ 4609 ∷ 514 ∷ 529 ∷ 4369 ∷ 4609 ∷ 514 ∷
    529 ∷ 769 ∷ 4609 ∷ 529 ∷ 4369 ∷ 4609 ∷ 4624 ∷ 529 ∷ 769 ∷ 4609 ∷ 4624 ∷ 529 ∷
    4369 ∷ 4384 ∷ 4624 ∷ 529 ∷ 544 ∷ 4384 ∷ 4624 ∷ 529 ∷ 769 ∷ 784 ∷ 4624 ∷ 529 ∷
    544 ∷ 784 ∷ 4624 ∷ 769 ∷ 4609 ∷ 4624 ∷ 4864 ∷ 769 ∷ 784 ∷ 4624 ∷ 4864 ∷ 769 ∷
    784 ∷ 1024 ∷ 4864 ∷ 4099 ∷ 4114 ∷ 4354 ∷ 8194 ∷ 4114 ∷ 4354 ∷ 8194 ∷ 8209 ∷ 4114 ∷
    4354 ∷ 4369 ∷ 8209 ∷ 4114 ∷ 4129 ∷ 4369 ∷ 8209 ∷ 4129 ∷ 4369 ∷ 8209 ∷ 8224 ∷ 4129 ∷
    4369 ∷ 4384 ∷ 8224 ∷ 4129 ∷ 4144 ∷ 4384 ∷ 8224 ∷ 4354 ∷ 8194 ∷ 8209 ∷ 8449 ∷ 4354 ∷
    4369 ∷ 8209 ∷ 8449 ∷ 4354 ∷ 4369 ∷ 4609 ∷ 8449 ∷ 4369 ∷ 8209 ∷ 8449 ∷ 8464 ∷ 4369 ∷
    4609 ∷ 8449 ∷ 8464 ∷ 4369 ∷ 8209 ∷ 8224 ∷ 8464 ∷ 4369 ∷ 4384 ∷ 8224 ∷ 8464 ∷ 4369 ∷
    4609 ∷ 4624 ∷ 8464 ∷ 4369 ∷ 4384 ∷ 4624 ∷ 8464 ∷ 4609 ∷ 8449 ∷ 8464 ∷ 8704 ∷ 4609 ∷
    4624 ∷ 8464 ∷ 8704 ∷ 4609 ∷ 4624 ∷ 4864 ∷ 8704 ∷ 8194 ∷ 8209 ∷ 8449 ∷ 12289 ∷ 8209 ∷
    8449 ∷ 12289 ∷ 12304 ∷ 8209 ∷ 8449 ∷ 8464 ∷ 12304 ∷ 8209 ∷ 8224 ∷ 8464 ∷ 12304 ∷ 8449 ∷
    12289 ∷ 12304 ∷ 12544 ∷ 8449 ∷ 8464 ∷ 12304 ∷ 12544 ∷ 8449 ∷ 8464 ∷ 8704 ∷ 12544 ∷ 12289 ∷
    12304 ∷ 12544 ∷ 16384 ∷ []

-- THE TEST: the corners of the six patterns, packed, are the numbers of the table
pub table_is : ready_corners ≡ numbers
unfolding ready_corners numbers
table_is = refl

pub table-length : length ready_corners ≡ 483
unfolding numbers
table-length = ap length table_is

-- where a part of the table is a pattern, packed, each entry there is its corner
part-begins : (d R start n : ℕ) → R ^ d * suc d ≡ n → start + n ≤ 483 → take n (drop start numbers) ≡ map packed (pattern_of d R) → Begins d R start
part-begins d R start n m h e = record {
  within = omega (arith, row_count d R, table-length);
  corner = λ i l.
      ap (λ (t : List ℕ). get_or t (start + i) 0) table_is
      ∙ sym (get_or-drop start numbers i 0)
      ∙ sym (get_or-take n (drop start numbers) i 0 (omega (arith, row_count d R)))
      ∙ ap (λ (t : List ℕ). get_or t i 0) e
      ∙ map_at packed (pattern_of d R) i [] 0 l;
}

-- where the patterns start
abbrev pub starts : List ℕ
starts = 0 ∷ 12 ∷ 39 ∷ 87 ∷ 119 ∷ 227 ∷ []

pub begins : (d R : ℕ) → InTable d R → Begins d R (get_or starts ((d - 2) * 3 + (R - 2)) 0)
unfolding numbers
begins zero R t = absurd (omega (arith, t.axes_from))
begins (suc zero) R t = absurd (omega (arith, t.axes_from))
begins (suc (suc zero)) zero t = absurd (omega (arith, t.least))
begins (suc (suc zero)) (suc zero) t = absurd (omega (arith, t.least))
begins (suc (suc zero)) (suc (suc zero)) t = part-begins 2 2 0 12 refl (omega arith) refl
begins (suc (suc zero)) (suc (suc (suc zero))) t = part-begins 2 3 12 27 refl (omega arith) refl
begins (suc (suc zero)) (suc (suc (suc (suc zero)))) t = part-begins 2 4 39 48 refl (omega arith) refl
begins (suc (suc zero)) (suc (suc (suc (suc (suc R))))) t = absurd (omega (arith, t.most))
begins (suc (suc (suc zero))) zero t = absurd (omega (arith, t.least))
begins (suc (suc (suc zero))) (suc zero) t = absurd (omega (arith, t.least))
begins (suc (suc (suc zero))) (suc (suc zero)) t = part-begins 3 2 87 32 refl (omega arith) refl
begins (suc (suc (suc zero))) (suc (suc (suc zero))) t = part-begins 3 3 119 108 refl (omega arith) refl
begins (suc (suc (suc zero))) (suc (suc (suc (suc zero)))) t = part-begins 3 4 227 256 refl (omega arith) refl
begins (suc (suc (suc zero))) (suc (suc (suc (suc (suc R))))) t = absurd (omega (arith, t.most))
begins (suc (suc (suc (suc d)))) R t = absurd (omega (arith, t.axes_to))

-- weights of sum below 16 are what was packed
unpacked-packed : (ws : List ℕ) → added ws < 16 → unpacked (length ws) (packed ws) ≡ ws
unpacked-packed [] h = refl
unpacked-packed (w ∷ ws) h =
    let low : (w + 16 * packed ws) % 16 ≡ w = omega arith in
    let high : (w + 16 * packed ws) / 16 ≡ packed ws = omega arith in
    let rest : unpacked (length ws) (packed ws) ≡ ws = unpacked-packed ws (omega arith) in
    ap (λ (x : ℕ). x ∷ unpacked (length ws) ((w + 16 * packed ws) / 16)) low
    ∙ ap (λ (c : ℕ). w ∷ unpacked (length ws) c) high
    ∙ ap (λ (l : List ℕ). w ∷ l) rest

-- unpacked, an entry of the table is the corner that the stepping rule gives, wherever the pattern begins
pub entry : (d R start : ℕ) → InTable d R → Begins d R start → (i : ℕ) → i < length (pattern_of d R)
    → unpacked (suc d) (get_or ready_corners (start + i) 0) ≡ get_or (pattern_of d R) i []
entry d R start t b i l =
    let row : List ℕ = get_or (pattern_of d R) i [] in
    let m : Memᴰ row (pattern_of d R) = mem-get_or (pattern_of d R) i [] l in
    ap (unpacked (suc d)) (b.corner i l)
    ∙ ap (λ (n : ℕ). unpacked n (packed row)) (sym (row-long d R row m))
    ∙ unpacked-packed row (omega (arith, row-sum d R row m, t.most))

-- THE ENTRY: the same of the numbers and the starts that the code has
pub each-entry : (d R : ℕ) → InTable d R → (i : ℕ) → i < length (pattern_of d R)
    → unpacked (suc d) (get_or numbers (get_or starts ((d - 2) * 3 + (R - 2)) 0 + i) 0) ≡ get_or (pattern_of d R) i []
each-entry d R t i l =
    let start : ℕ = get_or starts ((d - 2) * 3 + (R - 2)) 0 in
    ap (λ (table : List ℕ). unpacked (suc d) (get_or table (start + i) 0)) (sym table_is) ∙ entry d R start t (begins d R t) i l
