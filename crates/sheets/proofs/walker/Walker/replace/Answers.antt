use Rattle.std.proofs.Common.{◌≡◌, ◌-◌, length, reverse, set, ap, ◌∙◌, ap₂, length-set}
use Rattle.arrayvec.specs.ArrayVec.{with_items}
use Rattle.arrayvec.proofs.ArrayVecLemmas.{items-with_items}
use Rattle.sheets.proofs.Stacks.{latest_replaced}
use Rattle.sheets.proofs.walker.Walker.replace.Goals as goal

pub returns : goal.returns
returns c =
    let stack = c.args.self.now.stack in
    let block = c.args.block in
    let lent = c.deref_mut.result.now in
    let last = c.len-last.result - 1 in
    let same : length (set lent last block) ≡ length stack.items = length-set lent last block ∙ ap length c.deref_mut.ensures.value in
    let left : (with_items stack (set lent last block)).items ≡ set stack.items (length stack.items - 1) block =
    items-with_items stack (set lent last block) same ∙ ap₂ (λ xs n. set xs (n - 1) block) c.deref_mut.ensures.value c.len-last.ensures.value in
    ap reverse left ∙ latest_replaced stack.items block c.requires
