-- Calls are answered one by one: what is so after the first i of them. Assumes nothing.
use Rattle.std.proofs.Common.{◌≡◌, ℕ, ◌+◌, ◌<◌, min, List, Option, [], ◌∷◌, ◌++◌, map, length, length-take, get_or, take, drop, set, sym, ap, ◌∙◌, ap₂, arith}
use mathlib.Core.Path.{fun_ext}
use Rattle.std.proofs.lemmas.List.{map-append, get_or-take, take_more, take_more_set, drop-drop, drop-set-lt}
use Rattle.labels.specs.declared.scheme.Scheme.{Ghosts}
use Rattle.table.specs.declared.table.Slot.{Slot}
use Rattle.table.specs.Slots.{person_at, label_at}
use Rattle.noninterference.specs.Monitor.{Call, Answer, Monitor, step, answers, final}
use Rattle.noninterference.proofs.Calls.{one_by_one}
use Rattle.monitor.specs.declared.call.Call as call
use Rattle.monitor.specs.declared.call.Answer as answer
use Rattle.monitor.specs.declared.monitor.Monitor as box
use Rattle.monitor.specs.Boxes.{monitor_of}
use Rattle.monitor.specs.Calls.{call_of, answer_of}
use Rattle.monitor.specs.Steps.{the_box, OnlyTableChanges, Steps}
use Rattle.monitor.proofs.Labels.{step_keeps}

module _ {S : Type 0} (its : Ghosts S) (start : box.Monitor S) (calls : List call.Call) (places : List answer.Answer) where
  abbrev M : Monitor
  M = the_box its start

  abbrev first : ℕ → List Call
  first i = map call_of (take i calls)

  -- the first i calls are answered
  pub record Playing (i : ℕ) (written : List answer.Answer) (now : box.Monitor S) : Type 0 where
    pub answers_are : map answer_of (take i written) ≡ answers M start.table.slots (first i)
    pub rest_stays : drop i written ≡ drop i places
    pub slots_are : now.table.slots ≡ final M start.table.slots (first i)
    pub people_stay : now.table.people ≡ start.table.people
    pub labels_stay : label_at now.table.slots ≡ label_at start.table.slots
    pub kept : OnlyTableChanges start now

  -- the call i, of the first n
  module _ (n i : ℕ) (written : List answer.Answer) (now : box.Monitor S) (p : Playing i written now) (d : call.Call) (reply : answer.Answer) (after : box.Monitor S)
      (s : Steps its now (call_of (get_or (take n calls) i d)) (answer_of reply) after) (in-calls : i < length (take n calls)) (in-places : i < length written) where
    abbrev next : Call
    next = call_of (get_or (take n calls) i d)

    made : i < min n (length calls)
    made = omega (arith, length-take n calls)

    same_call : get_or (take n calls) i d ≡ get_or calls i d
    same_call = get_or-take n calls i d (omega (arith, made))

    first_more : first (i + 1) ≡ first i ++ (next ∷ [])
    first_more =
        ap (map call_of) (take_more calls i d (omega (arith, made)))
        ∙ map-append call_of (take i calls) (get_or calls i d ∷ [])
        ∙ ap (λ (c : call.Call). first i ++ (call_of c ∷ [])) (sym same_call)

    same_box : the_box its now ≡ M
    same_box =
        ap₂ (λ (scheme : S) (x : (ℕ → Option ℕ) × (ℕ → Option ℕ)). monitor_of (its.flows scheme) (its.joins scheme) (its.bits scheme) x.0 x.1) p.kept.0
        (ap₂ (λ (people : List (Option ℕ)) (labels : ℕ → Option ℕ). (person_at people, labels)) p.people_stay p.labels_stay)

    stepped : ◌≡◌ {A = List Slot × Answer} (after.table.slots, answer_of reply) (step M (final M start.table.slots (first i)) next)
    stepped =
        s.steps
        ∙ ap (λ (N : Monitor). step N now.table.slots next) same_box
        ∙ ap (λ (slots : List Slot). step M slots next) p.slots_are

    pub one_more : OnlyTableChanges now after → Playing (i + 1) (set written i reply) after
    one_more kept = record {
      answers_are =
          ap (map answer_of) (take_more_set written i reply in-places)
          ∙ map-append answer_of (take i written) (reply ∷ [])
          ∙ ap₂ (λ (a : List Answer) (b : Answer). a ++ (b ∷ [])) p.answers_are (ap (λ (x : List Slot × Answer). x.1) stepped)
          ∙ sym (ap (answers M start.table.slots) first_more ∙ (one_by_one M).answers_parts start.table.slots (first i) (next ∷ []));
      rest_stays =
          drop-set-lt (i + 1) written i reply (omega arith)
          ∙ sym (drop-drop 1 i written)
          ∙ ap (drop 1) p.rest_stays
          ∙ drop-drop 1 i places;
      slots_are =
          ap (λ (x : List Slot × Answer). x.0) stepped
          ∙ sym (ap (final M start.table.slots) first_more ∙ (one_by_one M).final_parts start.table.slots (first i) (next ∷ []));
      people_stay = s.people_stay ∙ p.people_stay;
      labels_stay =
          ap (λ (x : List Slot × Answer). label_at x.0) s.steps
          ∙ fun_ext (λ k. step_keeps now.table.slots k (the_box its now) next)
          ∙ p.labels_stay;
      kept = (kept.0 ∙ p.kept.0, kept.1 ∙ p.kept.1);
    }
