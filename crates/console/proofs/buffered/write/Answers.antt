use Rattle.std.proofs.Common.{◌≡◌, refl, arith, rules}
use Rattle.std.proofs.lemmas.Slice.{take-put_mid, drop-put_mid}
use Rattle.console.proofs.buffered.write.Goals as goal

pub returns : goal.returns
returns c =
    let out = c.args.out.now in
    let at = c.args.at in
    let text = c.args.text.now in
    let same : c.copy_from_slice.new.self ≡ text = search rules in
    record {
      ends = refl;
      front = rw same (take-put_mid at _ out text _ refl (omega arith));
      back = rw same (drop-put_mid at _ out text _ (omega arith) (omega arith) (omega arith));
    }
