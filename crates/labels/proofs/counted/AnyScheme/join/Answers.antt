use Rattle.labels.specs.Inclusion.{unite_is}
use Rattle.labels.proofs.counted.AnyScheme.join.Goals as goal

pub returns : goal.returns
returns g c =
    let s = c.args.self.now in
    unite_is (g.C.Counted.places s) (g.C.Counted.counts s) c.mask-mask.result c.args.a c.args.b c.mask-mask.ensures
