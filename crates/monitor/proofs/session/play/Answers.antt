use Rattle.std.proofs.Common.{◌≡◌, Ok, rules}
use Rattle.roster.specs.Reading.{roster_of}
use Rattle.monitor.specs.Play.{Answered}
use Rattle.monitor.specs.Steps.{box_under}
use Rattle.monitor.proofs.Soundness.{unmarked, untraced}
use Rattle.monitor.proofs.session.play.Goals as goal

pub returns-clause-unmarked : goal.returns-clause-unmarked
returns-clause-unmarked g c =
    let scheme = c.args.scheme in
    let text = c.args.roster.now in
    let table = c.roster.new.self.table in
    let after = c.answer_all.new.self.table in
    let read : roster_of (g.S.Scheme.bits scheme) text ≡ Ok table = search rules in
    let answered : Answered (box_under g.S.Scheme scheme table) table c.args.calls.now c.args.answers.now c.answer_all.new.answers after = search rules in
    λ listed again. unmarked (g.S.Scheme.flows scheme) (g.S.Scheme.joins scheme) (g.S.Scheme.bits scheme) (g.met.S.Scheme.lawful scheme) text listed again table read c.args.calls.now c.args.answers.now c.answer_all.new.answers after answered

pub returns-clause-untraced : goal.returns-clause-untraced
returns-clause-untraced g c =
    let scheme = c.args.scheme in
    untraced (g.S.Scheme.flows scheme) (g.S.Scheme.joins scheme) (g.S.Scheme.bits scheme) (g.met.S.Scheme.lawful scheme) c.args.roster.now
