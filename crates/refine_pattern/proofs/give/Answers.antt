-- A chain that is kept gives its weights, and one that is not gives nothing. Assumes nothing.
use mathlib.Core.Path.{◌≡◌, sym, ap, ◌∙◌}
use mathlib.Core.Bool.{true}
use Prim.Native.Nat.{ℕ, suc, ◌+◌, ◌*◌, ◌≤◌}
use native.Mathlib.Numerals.{add-one}
use native.Mathlib.Nat.{mul-le-mul}
use native.Mathlib.Omega.{arith}
use lib.ListN.{length}
use lib.Seq.{length-take-le}
use Rattle.refine_pattern.specs.WorkChains.{chain_at, keeps}
use Rattle.refine_pattern.proofs.Cursors.{given_yes, chain-size, gives-onto, gives_none}
use Rattle.refine_pattern.proofs.give.Goals as goal

square : (d : ℕ) → (d + 1) * (d + 1) ≡ suc d * suc d
square d = ap (λ (n : ℕ). n * n) (add-one d)

pub returns-then-not-kept : goal.returns-then-not-kept
returns-then-not-kept c =
    let said = gives_none c.args.d c.args.r c.args.c c.requires.stands c.args.to.now (sym c.kept.ensures ∙ c.if-not-kept.true) in
    record { used = said.0; list = said.1 }

pub overflow_mul-size : goal.overflow_mul-size
overflow_mul-size c =
    let h : c.args.d + 1 ≤ 4 = omega (arith, c.requires.stands.axes) in
    omega (arith, mul-le-mul h h)

pub slice_bounds-write-end : goal.slice_bounds-write-end
slice_bounds-write-end c =
    let chosen : keeps c.args.r (chain_at c.args.d c.args.c) ≡ true = sym c.kept.ensures ∙ c.if-not-kept.false in
    let space : (c.args.d + 1) * (c.args.d + 1) ≤ length c.args.to.now = omega (
      arith,
      square c.args.d,
      chain-size c.args.d c.args.r c.args.c c.requires.stands,
      ap length (given_yes c.args.r (chain_at c.args.d c.args.c) chosen),
      c.requires.room,
    ) in
    space

pub slice_bounds-write-end-2 : goal.slice_bounds-write-end-2
slice_bounds-write-end-2 c =
    let chosen : keeps c.args.r (chain_at c.args.d c.args.c) ≡ true = sym c.kept.ensures ∙ c.if-not-kept.false in
    let space : (c.args.d + 1) * (c.args.d + 1) ≤ length c.args.to.now = omega (
      arith,
      square c.args.d,
      chain-size c.args.d c.args.r c.args.c c.requires.stands,
      ap length (given_yes c.args.r (chain_at c.args.d c.args.c) chosen),
      c.requires.room,
    ) in
    sym (length-take-le _ _ (space))

pub write-requires : goal.write-requires
write-requires c =
    let chosen : keeps c.args.r (chain_at c.args.d c.args.c) ≡ true = sym c.kept.ensures ∙ c.if-not-kept.false in
    let space : (c.args.d + 1) * (c.args.d + 1) ≤ length c.args.to.now = omega (
      arith,
      square c.args.d,
      chain-size c.args.d c.args.r c.args.c c.requires.stands,
      ap length (given_yes c.args.r (chain_at c.args.d c.args.c) chosen),
      c.requires.room,
    ) in
    record {
      stands = c.requires.stands;
      kept = chosen;
      room = length-take-le _ _ (space) ∙ square c.args.d;
    }

pub returns : goal.returns
returns c =
    let chosen : keeps c.args.r (chain_at c.args.d c.args.c) ≡ true = sym c.kept.ensures ∙ c.if-not-kept.false in
    let said = gives-onto c.args.d c.args.r c.args.c c.requires.stands c.args.to.now c.write.new.to
    ((c.args.d + 1) * (c.args.d + 1)) (chosen) (square c.args.d) c.write.ensures in
    record { used = said.0; list = said.1 }
