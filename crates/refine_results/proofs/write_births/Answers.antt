-- `refine_results::write_births` meets its contract: the vertices and weights of the births come back in the first places, and their shares are those of the weights (proofs/Writing). Assumes nothing.
use mathlib.Core.Path.{◌≡◌, sym, ap}
use Prim.Native.Nat.{ℕ, suc, ◌+◌, ◌*◌}
use native.Mathlib.Omega.{arith}
use native.Mathlib.Numerals.{add-one}
use lib.Seq.{length-take-le}
use Rattle.refine_results.proofs.Writing.{bearing, front-size, shares-room, bore}
use Rattle.refine_results.proofs.write_births.Goals as goal

pub slice_bounds-births-end-2 : goal.slice_bounds-births-end-2
slice_bounds-births-end-2 c =
    let e : c.args.count * (c.args.d + 1) ≡ c.args.count * suc c.args.d = ap (λ (x : ℕ). c.args.count * x) (add-one c.args.d) in
    sym (length-take-le (c.args.count * (c.args.d + 1)) c.args.vertices.now (omega (arith, c.requires.in_vertices, e)))

pub slice_bounds-births-end-4 : goal.slice_bounds-births-end-4
slice_bounds-births-end-4 c =
    let e : c.args.count * (c.args.d + 1) ≡ c.args.count * suc c.args.d = ap (λ (x : ℕ). c.args.count * x) (add-one c.args.d) in
    sym (length-take-le (c.args.count * (c.args.d + 1)) c.args.weights.now (omega (arith, c.requires.in_weights, e)))

pub births-requires : goal.births-requires
births-requires c =
    let e : c.args.count * (c.args.d + 1) ≡ c.args.count * suc c.args.d = ap (λ (x : ℕ). c.args.count * x) (add-one c.args.d) in
    bearing c.args.d c.args.r c.args.n c.args.count c.args.keys.now c.args.fresh.now c.args.vertices.now c.args.weights.now c.args.shares.now c.requires (c.args.count * (c.args.d + 1)) e

pub slice_bounds-shares-end-2 : goal.slice_bounds-shares-end-2
slice_bounds-shares-end-2 c =
    let e : c.args.count * (c.args.d + 1) ≡ c.args.count * suc c.args.d = ap (λ (x : ℕ). c.args.count * x) (add-one c.args.d) in
    sym (front-size c.args.d c.args.r c.args.n c.args.count c.args.keys.now c.args.fresh.now c.args.vertices.now c.args.weights.now c.args.shares.now c.requires (c.args.count * (c.args.d + 1)) e c.births.new.vertices c.births.new.weights c.births.auto.weights)

pub slice_bounds-shares-end-4 : goal.slice_bounds-shares-end-4
slice_bounds-shares-end-4 c =
    let e : c.args.count * (c.args.d + 1) ≡ c.args.count * suc c.args.d = ap (λ (x : ℕ). c.args.count * x) (add-one c.args.d) in
    sym (length-take-le (c.args.count * (c.args.d + 1)) c.args.shares.now (omega (arith, c.requires.in_shares, e)))

pub shares-requires : goal.shares-requires
shares-requires c =
    let e : c.args.count * (c.args.d + 1) ≡ c.args.count * suc c.args.d = ap (λ (x : ℕ). c.args.count * x) (add-one c.args.d) in
    shares-room c.args.d c.args.r c.args.n c.args.count c.args.keys.now c.args.fresh.now c.args.vertices.now c.args.weights.now c.args.shares.now c.requires (c.args.count * (c.args.d + 1)) e c.births.new.vertices c.births.new.weights c.births.auto.weights

pub returns : goal.returns
returns c =
    let e : c.args.count * (c.args.d + 1) ≡ c.args.count * suc c.args.d = ap (λ (x : ℕ). c.args.count * x) (add-one c.args.d) in
    λ bs t. bore c.args.d c.args.r c.args.n c.args.count c.args.keys.now c.args.fresh.now c.args.vertices.now c.args.weights.now c.args.shares.now c.requires (c.args.count * (c.args.d + 1)) e c.births.new.vertices c.births.new.weights c.births.auto.weights c.shares.new.to c.shares.ensures bs t (c.births.ensures bs t)
