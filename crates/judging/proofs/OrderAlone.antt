-- Which blocks are typed depends on the order of the labels alone. Assumes nothing.
use Rattle.std.proofs.Common.{◌≡◌, ℕ, Bool, true, ◌&&◌, List, [], ◌∷◌, map, Some, None, Option, sym, refl, ap, ◌∙◌, ap₂}
use Rattle.rows.specs.declared.fault.RowReason.TheVariants.{SetNotPassed, WhileNotPassed}
use Rattle.rows.specs.declared.row.Row.{Row}
use Rattle.rows.specs.declared.row.Row.TheVariants.{Idle, PutConstant, SlotWithConstant, TwoSlots, If, Else, While, End}
use Rattle.labels.specs.Laws.{Code, Lawful}
use Rattle.sheets.specs.Programs.{Expression, Block, nil, simple, when, either, while, simple_row}
use Rattle.judging.specs.Typing.{Reads, reads_constant, reads_with_constant, reads_two_slots, Typed, typed_nil, typed_skip, typed_assign, typed_when, typed_either, typed_while}
use Rattle.judging.specs.Judging.{has_label, unless_passed, all_below, set_passes, raised, verdict, verdicts}
use Rattle.judging.specs.Theorems.{Coded, LowerControl, OrderAlone}
use Rattle.judging.proofs.Orders.{alike, join_code}

module _ {f₁ f₂ : ℕ → ℕ → Bool} {j₁ j₂ : ℕ → ℕ → ℕ} {b₁ b₂ : ℕ} (L₁ : Lawful f₁ j₁ b₁) (L₂ : Lawful f₂ j₂ b₂)
    (same : (a b : ℕ) → Code a → Code b → f₁ a b ≡ f₂ a b) {Γ : ℕ → Option ℕ} (coded : Coded Γ) {p : ℕ} (cp : Code p) where
  over : {a b : ℕ} → Code a → Code b → f₁ a b ≡ true → f₂ a b ≡ true
  over {a} {b} ca cb h = sym (same a b ca cb) ∙ h

  -- from a higher control label in the first scheme to a lower one in the second, under a guard too
  lowered : {γ δ l : ℕ} → Code γ → Code δ → Code l → f₂ δ γ ≡ true → f₂ (j₂ δ l) (j₁ γ l) ≡ true
  lowered {γ} {δ} {l} cγ cδ cl h =
      let cj = join_code L₁ cγ cl in
      L₂.join_least δ l (j₁ γ l) cδ cl cj
      (L₂.transitive δ γ (j₁ γ l) cδ cγ cj h (over cγ cj (L₁.join_left γ l cγ cl)))
      (over cl cj (L₁.join_right γ l cγ cl))

  reads : {l : ℕ} {e : Expression} → Code l → Reads f₁ j₁ Γ l e → Reads f₂ j₂ Γ l e
  reads cl reads_constant = reads_constant
  reads cl (reads_with_constant x f) = reads_with_constant x (over (coded _ _ x) cl f)
  reads cl (reads_two_slots x f y h) = reads_two_slots x (over (coded _ _ x) cl f) y (over (coded _ _ y) cl h)

  pub carried : {γ δ : ℕ} {b : Block} → Code γ → Code δ → f₂ δ γ ≡ true → Typed f₁ j₁ Γ p γ b → Typed f₂ j₂ Γ p δ b
  carried cγ cδ h typed_nil = typed_nil
  carried cγ cδ h (typed_skip t) = typed_skip (carried cγ cδ h t)
  carried {γ} {δ} cγ cδ h (typed_assign {l = l} e c r t) =
      let cl = coded _ _ e in
      typed_assign e (L₂.transitive δ γ l cδ cγ cl h (over cγ cl c)) (reads cl r) (carried cγ cδ h t)
  carried cγ cδ h (typed_when e a t) =
      let cl = coded _ _ e in
      typed_when e (carried (join_code L₁ cγ cl) (join_code L₂ cδ cl) (lowered cγ cδ cl h) a) (carried cγ cδ h t)
  carried cγ cδ h (typed_either e a b t) =
      let cl = coded _ _ e in
      typed_either e (carried (join_code L₁ cγ cl) (join_code L₂ cδ cl) (lowered cγ cδ cl h) a)
      (carried (join_code L₁ cγ cl) (join_code L₂ cδ cl) (lowered cγ cδ cl h) b) (carried cγ cδ h t)
  carried {γ} {δ} cγ cδ h (typed_while {l = l} e f a t) =
      let cl = coded _ _ e in
      let c₁ = join_code L₁ cγ cl in
      let c₂ = join_code L₂ cδ cl in
      let low = lowered cγ cδ cl h in
      typed_while e (L₂.transitive (j₂ δ l) (j₁ γ l) p c₂ c₁ cp low (over c₁ cp f)) (carried c₁ c₂ low a) (carried cγ cδ h t)

pub lower_control : LowerControl
lower_control f j bits L Γ coded p γ δ cp cγ cδ h b t = carried L L (λ x y cx cy. refl) coded cp cγ cδ h t

-- ---- verdicts

module _ {f₁ f₂ : ℕ → ℕ → Bool} {j₁ j₂ : ℕ → ℕ → ℕ} {b₁ b₂ : ℕ} (L₁ : Lawful f₁ j₁ b₁) (L₂ : Lawful f₂ j₂ b₂)
    (same : (a b : ℕ) → Code a → Code b → f₁ a b ≡ f₂ a b) {Γ : ℕ → Option ℕ} (coded : Coded Γ) {p : ℕ} (cp : Code p) where
  abbrev back : (a b : ℕ) → Code a → Code b → f₂ a b ≡ f₁ a b
  back a b ca cb = sym (same a b ca cb)

  -- control labels of the two schemes that mean the same
  pub record Even (γ δ : ℕ) : Type 0 where
    pub first : Code γ
    pub second : Code δ
    pub up : f₁ γ δ ≡ true
    pub down : f₂ δ γ ≡ true

  even_flows : {γ δ l : ℕ} → Even γ δ → Code l → f₁ γ l ≡ f₂ δ l
  even_flows {γ} {δ} {l} e cl =
      alike (f₁ γ l) (f₂ δ l)
      (λ h. L₂.transitive δ γ l e.second e.first cl e.down (over L₁ L₂ same coded cp e.first cl h))
      (λ h. L₁.transitive γ δ l e.first e.second cl e.up (over L₂ L₁ back coded cp e.second cl h))

  even_joins : {γ δ l : ℕ} → Even γ δ → Code l → Even (j₁ γ l) (j₂ δ l)
  even_joins e cl = record {
    first = join_code L₁ e.first cl;
    second = join_code L₂ e.second cl;
    up = lowered L₂ L₁ back coded cp e.second e.first cl e.up;
    down = lowered L₁ L₂ same coded cp e.first e.second cl e.down;
  }

  even_inside : {γ δ : ℕ} (guard : Option ℕ) → ((l : ℕ) → guard ≡ Some l → Code l) → Even γ δ → Even (raised j₁ γ guard) (raised j₂ δ guard)
  even_inside None code e = e
  even_inside (Some l) code e = even_joins e (code l refl)

  -- two tests that agree on codes, of one slot's label
  tests : (slot : ℕ) (s t : ℕ → Bool) → ((l : ℕ) → Code l → s l ≡ t l) → has_label (Γ slot) s ≡ has_label (Γ slot) t
  tests slot s t h = go (Γ slot) (coded slot)
    where
      go : (o : Option ℕ) → ((l : ℕ) → o ≡ Some l → Code l) → has_label o s ≡ has_label o t
      go None code = refl
      go (Some l) code = h l (code l refl)

  even_below : (slots : List ℕ) {l : ℕ} → Code l → all_below f₁ (map Γ slots) l ≡ all_below f₂ (map Γ slots) l
  even_below [] cl = refl
  even_below (slot ∷ slots) {l} cl =
      ap₂ (λ (x y : Bool). x && y) (tests slot (λ m. f₁ m l) (λ m. f₂ m l) (λ m cm. same m l cm cl)) (even_below slots cl)

  even_set : {γ δ : ℕ} (target : ℕ) (slots : List ℕ) → Even γ δ →
      unless_passed (set_passes f₁ γ (map Γ slots) (Γ target)) SetNotPassed ≡ unless_passed (set_passes f₂ δ (map Γ slots) (Γ target)) SetNotPassed
  even_set {γ} {δ} target slots e =
      ap (λ (x : Bool). unless_passed x SetNotPassed)
      (tests target (λ l. f₁ γ l && all_below f₁ (map Γ slots) l) (λ l. f₂ δ l && all_below f₂ (map Γ slots) l)
      (λ l cl. ap₂ (λ (x y : Bool). x && y) (even_flows e cl) (even_below slots cl)))

  even_verdict : {γ δ : ℕ} (r : Row) → Even γ δ → verdict f₁ j₁ Γ p γ r ≡ verdict f₂ j₂ Γ p δ r
  even_verdict Idle e = refl
  even_verdict (PutConstant target k) e = even_set target [] e
  even_verdict (SlotWithConstant op target first k) e = even_set target (first ∷ []) e
  even_verdict (TwoSlots op target first second) e = even_set target (first ∷ second ∷ []) e
  even_verdict (If guard) e = refl
  even_verdict Else e = refl
  even_verdict {γ} {δ} (While guard) e =
      ap (λ (x : Bool). unless_passed x WhileNotPassed)
      (tests guard (λ l. f₁ (j₁ γ l) p) (λ l. f₂ (j₂ δ l) p) (λ l cl. even_flows (even_joins e cl) cp))
  even_verdict End e = refl

  pub even_verdicts : (b : Block) {γ δ : ℕ} → Even γ δ → verdicts f₁ j₁ Γ p γ b ≡ verdicts f₂ j₂ Γ p δ b
  even_verdicts nil e = refl
  even_verdicts (simple s rest) e = let v = even_verdict (simple_row s) e in let y = even_verdicts rest e in cc
  even_verdicts (when g a rest) e =
      let x = even_verdicts a (even_inside (Γ g) (coded g) e) in
      let y = even_verdicts rest e in
      cc
  even_verdicts (either g a b rest) e =
      let x = even_verdicts a (even_inside (Γ g) (coded g) e) in
      let z = even_verdicts b (even_inside (Γ g) (coded g) e) in
      let y = even_verdicts rest e in
      cc
  even_verdicts (while g a rest) e =
      let v = even_verdict (While g) e in
      let x = even_verdicts a (even_inside (Γ g) (coded g) e) in
      let y = even_verdicts rest e in
      cc

pub order_alone : OrderAlone
order_alone f₁ f₂ j₁ j₂ b₁ b₂ L₁ L₂ same Γ coded p γ cp cγ b =
    let up = L₁.reflexive γ cγ in
    let down = L₂.reflexive γ cγ in (
      even_verdicts L₁ L₂ same coded cp b (record { first = cγ; second = cγ; up = up; down = down }),
      (
        λ t. carried L₁ L₂ same coded cp cγ cγ down t,
        λ t. carried L₂ L₁ (λ x y cx cy. sym (same x y cx cy)) coded cp cγ cγ up t,
      ),
    )
