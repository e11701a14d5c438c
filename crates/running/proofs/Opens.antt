-- What is known of a block once the row that it begins with is. Assumes nothing.
use Rattle.std.proofs.Common.{◌≡◌, ℕ, ◌+◌, ◌<◌, ◌≤◌, min, Bool, true, false, cond, List, get_or, sym, refl, ap, ◌∙◌, subst, arith}
use Rattle.table.specs.declared.table.Slot.{Slot}
use Rattle.rows.specs.declared.row.Row.{Row}
use Rattle.rows.specs.declared.row.Row.TheVariants.{Idle, PutConstant, SlotWithConstant, TwoSlots, If, Else, While, End}
use Rattle.sheets.specs.Programs.{constant, with_constant, two_slots, Simple, skip, assign, Block, nil, simple, when, either, while, simple_row}
use Rattle.rows.specs.Writing.{slots_of}
use Rattle.sheets.specs.Reading.{in_range}
use Rattle.running.specs.Running.{done, holds, exec}
use Rattle.running.specs.Links.{At, Linked, first, after, branch_rows}
use Rattle.running.proofs.Parts.{body, chosen, Looking}
use Rattle.running.proofs.Turning.{loop, loop_looks}

-- tells apart what a row does to the blocks
abbrev mark : Row → ℕ
mark Idle = 0
mark (PutConstant target k) = 0
mark (SlotWithConstant op target one k) = 0
mark (TwoSlots op target one two) = 0
mark (If g) = 1
mark Else = 2
mark (While g) = 3
mark End = 4

mark_simple : (s : Simple) → mark (simple_row s) ≡ 0
mark_simple skip = refl
mark_simple (assign target (constant k)) = refl
mark_simple (assign target (with_constant op one k)) = refl
mark_simple (assign target (two_slots op one two)) = refl

module _ (rows : List Row) (jumps : List ℕ) where
  -- a block ends at its first row or after it, and only the empty one ends there
  pub record Spans (i : ℕ) (b : Block) (j : ℕ) : Type 0 where
    pub le : i ≤ j
    pub none : j ≤ i → b ≡ nil

  some : (i : ℕ) (b : Block) (j : ℕ) → i < j → Spans i b j
  some i b j lt = record { le = omega arith; none = λ le. absurd (omega arith) }

  pub spans : (i : ℕ) (b : Block) (j : ℕ) → Linked rows jumps i b j → Spans i b j
  spans i nil j h = record { le = omega (arith, h); none = λ le. refl }
  spans i (simple s rest) j h = some i (simple s rest) j (omega (arith, (spans (i + 1) rest j h.1).le))
  spans i (when g a rest) j h =
      let mid : ℕ = get_or jumps i 0 in
      some i (when g a rest) j (omega (arith, (spans (i + 1) a mid h.1).le, (spans (mid + 1) rest j h.4).le))
  spans i (either g a b rest) j h =
      let mid : ℕ = get_or jumps i 0 in
      let end : ℕ = get_or jumps mid 0 in
      some i (either g a b rest) j (omega (arith, (spans (i + 1) a mid h.1).le, (spans (mid + 1) b end h.3).le, (spans (end + 1) rest j h.5).le))
  spans i (while g a rest) j h =
      let end : ℕ = get_or jumps i 0 in
      some i (while g a rest) j (omega (arith, (spans (i + 1) a end h.1).le, (spans (end + 1) rest j h.3).le))

  here : (i : ℕ) (r : Row) → At rows i r → At rows i (get_or rows i Idle)
  here i r h = record { below = h.below; stands = h.stands; is = refl; in_table = ap (λ (r : Row). in_range (slots_of r)) h.is ∙ h.in_table }

  -- a block that is not empty begins at a row
  pub begins : (i : ℕ) (b : Block) (j : ℕ) → Linked rows jumps i b j → i < j → At rows i (get_or rows i Idle)
  begins i nil j h lt = absurd (omega (arith, h))
  begins i (simple s rest) j h lt = here i (simple_row s) h.0
  begins i (when g a rest) j h lt = here i (If g) h.0
  begins i (either g a b rest) j h lt = here i (If g) h.0
  begins i (while g a rest) j h lt = here i (While g) h.0

  module _ (at : ℕ) where
    abbrev mid : ℕ
    mid = get_or jumps at 0

    abbrev end : ℕ
    end = get_or jumps mid 0

    -- the parts of a block that begins with an if, and where they stand
    pub record IfParts (g : ℕ) (b : Block) (to : ℕ) : Type 0 where
      pub later : at < mid
      pub later_end : mid ≤ end
      pub next : Linked rows jumps (end + 1) (after b) to
      pub forward : (v : Bool) → at < (branch_rows v at mid end).0
      pub inner : (v : Bool) → Linked rows jumps (branch_rows v at mid end).0 (chosen v b) (branch_rows v at mid end).1
      pub runs : (s : List Slot) (t : ℕ) (v : Bool) → holds g s ≡ v → first b s t ≡ exec (chosen v b) s t

    pub if_parts : (g : ℕ) (b : Block) (to : ℕ) → Linked rows jumps at b to → at < to → get_or rows at Idle ≡ If g → IfParts g b to
    if_parts g nil to h lt e = absurd (omega (arith, h))
    if_parts g (simple x rest) to h lt e = absurd (omega (arith, mark_simple x, ap mark h.0.is, ap mark e))
    if_parts g (while x a rest) to h lt e = absurd (omega (arith, ap mark h.0.is, ap mark e))
    if_parts g (when x a rest) to h lt e =
        let same : x ≡ g = cc (h.0.is, e) in
        record {
          later = omega (arith, (spans (at + 1) a mid h.1).le);
          later_end = omega (arith, h.3);
          next = subst (λ (n : ℕ). Linked rows jumps (n + 1) rest to) (sym h.3) h.4;
          forward = λ v. elim v as (λ w. at < (branch_rows w at mid end).0) [ true ↦ omega arith | false ↦ omega (arith, (spans (at + 1) a mid h.1).le, h.3) ];
          inner = λ v. elim v as (λ w. Linked rows jumps (branch_rows w at mid end).0 (chosen w (when x a rest)) (branch_rows w at mid end).1) [ true ↦ h.1 | false ↦ omega (arith, h.3) ];
          runs = λ s t v k.
              ap (λ (c : Bool). cond c (exec a s t) (done s t)) (ap (λ (n : ℕ). holds n s) same ∙ k)
              ∙ (elim v as (λ w. cond w (exec a s t) (done s t) ≡ exec (chosen w (when x a rest)) s t) [ true ↦ refl | false ↦ refl ]);
        }
    if_parts g (either x a b rest) to h lt e =
        let same : x ≡ g = cc (h.0.is, e) in
        let up : mid + 1 ≤ end = (spans (mid + 1) b end h.3).le in
        let from : mid + 1 ≡ min (mid + 1) end = omega arith in
        record {
          later = omega (arith, (spans (at + 1) a mid h.1).le);
          later_end = omega arith;
          next = h.5;
          forward = λ v. elim v as (λ w. at < (branch_rows w at mid end).0) [ true ↦ omega arith | false ↦ omega (arith, (spans (at + 1) a mid h.1).le, up) ];
          inner = λ v. elim v as (λ w. Linked rows jumps (branch_rows w at mid end).0 (chosen w (either x a b rest)) (branch_rows w at mid end).1) [ true ↦ h.1 | false ↦ subst (λ (n : ℕ). Linked rows jumps n b end) from h.3 ];
          runs = λ s t v k.
              ap (λ (c : Bool). cond c (exec a s t) (exec b s t)) (ap (λ (n : ℕ). holds n s) same ∙ k)
              ∙ (elim v as (λ w. cond w (exec a s t) (exec b s t) ≡ exec (chosen w (either x a b rest)) s t) [ true ↦ refl | false ↦ refl ]);
        }

    module _ (g : ℕ) (b : Block) (to : ℕ) (parts : IfParts g b to) (v : Bool) (p : ℕ × ℕ) (is : p ≡ branch_rows v at mid end) where
      pub branch_forward : at < p.0
      branch_forward = subst (λ (q : ℕ × ℕ). at < q.0) (sym is) (parts.forward v)

      pub branch_linked : Linked rows jumps p.0 (chosen v b) p.1
      branch_linked = subst (λ (q : ℕ × ℕ). Linked rows jumps q.0 (chosen v b) q.1) (sym is) (parts.inner v)

    -- the same of a while
    pub record WhileParts (g : ℕ) (b : Block) (to : ℕ) : Type 0 where
      pub inner : Linked rows jumps (at + 1) (body b) mid
      pub looks : (s : List Slot) (t : ℕ) → Looking rows jumps at g b to s t s t

    pub while_parts : (g : ℕ) (b : Block) (to : ℕ) → Linked rows jumps at b to → at < to → get_or rows at Idle ≡ While g → WhileParts g b to
    while_parts g nil to h lt e = absurd (omega (arith, h))
    while_parts g (simple x rest) to h lt e = absurd (omega (arith, mark_simple x, ap mark h.0.is, ap mark e))
    while_parts g (when x a rest) to h lt e = absurd (omega (arith, ap mark h.0.is, ap mark e))
    while_parts g (either x a b rest) to h lt e = absurd (omega (arith, ap mark h.0.is, ap mark e))
    while_parts g (while x a rest) to h lt e =
        let same : x ≡ g = cc (h.0.is, e) in
        record {
          inner = h.1;
          looks = λ s t.
              record {
                same = ap (λ (n : ℕ). loop n a s t) same ∙ loop_looks g a s t;
                next = h.3;
                later = omega (arith, (spans (at + 1) a mid h.1).le);
              };
        }
