use Rattle.std.proofs.Common.{◌+◌, ◌-◌, ◌≤◌, true, leb, sym, lt_of_lt_of_le, arith, pow_mono}
use Rattle.std.proofs.lemmas.Bool.{leb-true}
use Rattle.labels.proofs.pair.PairScheme.join.Goals as goal

-- each part's join is below two to the power of its scheme's width, and the widths add up to at most 64
pub rejoin-requires : goal.rejoin-requires
rejoin-requires g c =
    let s = c.args.self.now in
    let L = g.met.A.Scheme.lawful s.low in
    let H = g.met.B.Scheme.lawful s.high in
    let v = g.A.Scheme.bits s.low in
    let w = g.B.Scheme.bits s.high in
    let low = L.join_fits c.split-a_low.result.0 c.split-b_low.result.0 (omega arith) (omega arith) in
    let high = H.join_fits c.split-a_low.result.1 c.split-b_low.result.1 (omega arith) (omega arith) in
    let sum : v + w ≤ 64 = leb-true (v + w) 64 (sym {a = true} {b = leb (v + w) 64} c.if-not-fits.ensures) in
    let room : w ≤ 64 - v = omega arith in
    simp (c.width-width.ensures, c.join-low.ensures, c.join-high.ensures)
    (omega (arith, H.some_bits), (low, lt_of_lt_of_le high (pow_mono room)))
