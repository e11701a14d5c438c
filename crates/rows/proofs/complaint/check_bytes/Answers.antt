use Rattle.std.proofs.Common.{◌≡◌, ℕ, Bool, List, [], map, not, ◌&&◌, eqb, get_or, option_map, rules, refl, ap, ◌∙◌}
use borrow.Author.Tests.{tests}
use Rattle.std.proofs.lemmas.Iterator.{YieldsList-from_range}
use Rattle.std.proofs.lemmas.Iterator.Search.{find_from_yields_List}
use Rattle.std.specs.Option.{option_or}
use Rattle.std.specs.Result.{result_err}
use Rattle.table.specs.Slots.{listed}
use Rattle.rows.specs.Kinds.{is_slot, is_unused, kinds}
use Rattle.rows.specs.declared.kind.Use.{Use}
use Rattle.rows.specs.declared.kind.Use.TheVariants.{Unused}
use Rattle.rows.specs.declared.fault.RowReason.TheVariants.{NotListed, NotZero}
use Rattle.rows.specs.Reading.{byte_at, bytes_where, first, rest_complaints, slot_complaints}
use Rattle.rows.proofs.Searching.{found_is_first}
use Rattle.rows.proofs.complaint.check_bytes.Goals as goal

pub returns : goal.returns
returns c =
    let bytes = c.args.bytes in
    let unlisted : List Use → ℕ → Bool = λ uses k. is_slot (get_or uses k Unused) && not (listed c.args.table.now.slots (get_or bytes k 0)) in
    let nonzero : List Use → ℕ → Bool = λ uses k. is_unused (get_or uses k Unused) && not (eqb (get_or bytes k 0) 0) in
    let uses-are : c.uses-uses.result ≡ get_or kinds (byte_at bytes 0) [] = c.uses-uses.ensures ∙ ap (λ n. get_or kinds n []) c.requires in
    let found = find_from_yields_List (unlisted c.uses-uses.result) _ _ c.find.result c.find.ensures.ran (YieldsList-from_range 0 8 8 refl refl) (λ x b q k. search (rules, tests)) in
    let slot : option_map NotListed c.find.result ≡ first (slot_complaints (listed c.args.table.now.slots) bytes) =
    found_is_first NotListed (unlisted c.uses-uses.result) _ found ∙ ap (λ uses. first (map NotListed (bytes_where (unlisted uses)))) uses-are in
    let found-2 = find_from_yields_List (nonzero c.uses-uses.result) _ _ c.find-2.result c.find-2.ensures.ran (YieldsList-from_range 0 8 8 refl refl) (λ x b q k. search (rules, tests)) in
    let rest : option_map NotZero c.find-2.result ≡ first (rest_complaints bytes) =
    found_is_first NotZero (nonzero c.uses-uses.result) _ found-2 ∙ ap (λ uses. first (map NotZero (bytes_where (nonzero uses)))) uses-are in
    let told : result_err c.map_or.result ≡ option_or (option_map NotListed c.find.result) (option_map NotZero c.find-2.result) = search rules in
    told ∙ (λ i. option_or (slot i) (rest i))
