-- What a row depends on, joined into one label step by step, is at or below a label exactly when each part is. Assumes nothing.
use Rattle.std.proofs.Common.{◌≡◌, ℕ, Bool, true, false, ◌&&◌, List, [], ◌∷◌, ◌++◌, map, Some, None, Option, sym, refl, ap, ◌∙◌, subst}
use Rattle.std.proofs.lemmas.List.{map-append}
use Rattle.std.proofs.Math.Bool.{and-true, and-false}
use Rattle.labels.specs.Laws.{Code, Lawful}
use Rattle.judging.specs.Judging.{has_label, all_below, set_passes}
use Rattle.judging.specs.Steps.{joined, flowing, CodedLabel}
use Rattle.judging.proofs.Orders.{join_code, join_splits}

and_assoc : (x y z : Bool) → ((x && y) && z) ≡ (x && (y && z))
and_assoc true y z = refl
and_assoc false y z = refl

module _ (flows : ℕ → ℕ → Bool) where
  -- The control label γ and these labels are joined into the source.
  pub record Source (γ : ℕ) (labels : List (Option ℕ)) (source : Option ℕ) : Type 0 where
    pub code : CodedLabel source
    pub splits : (l : ℕ) → Code l → flowing flows source (Some l) ≡ (flows γ l && all_below flows labels l)

  -- one more label
  below_more : (labels : List (Option ℕ)) (m : Option ℕ) (l : ℕ) →
      all_below flows (labels ++ (m ∷ [])) l ≡ (all_below flows labels l && has_label m (λ a. flows a l))
  below_more [] m l = and-true (has_label m (λ a. flows a l))
  below_more (x ∷ labels) m l =
      ap (λ (b : Bool). has_label x (λ a. flows a l) && b) (below_more labels m l)
      ∙ sym (and_assoc (has_label x (λ a. flows a l)) (all_below flows labels l) (has_label m (λ a. flows a l)))

  pub source_none : (γ : ℕ) → Code γ → Source γ [] (Some γ)
  source_none γ cγ = record { code = cγ; splits = λ l cl. sym (and-true (flows γ l)) }

  flows_nowhere : (source : Option ℕ) → flowing flows source None ≡ false
  flows_nowhere None = refl
  flows_nowhere (Some a) = refl

  pub source_all : {γ : ℕ} {labels : List (Option ℕ)} {source : Option ℕ} (target : Option ℕ) → CodedLabel target →
      Source γ labels source → flowing flows source target ≡ set_passes flows γ labels target
  source_all {source = source} None cl so_far = flows_nowhere source
  source_all (Some l) cl so_far = so_far.splits l cl

module _ {flows : ℕ → ℕ → Bool} {joins : ℕ → ℕ → ℕ} {bits : ℕ} (law : Lawful flows joins bits) where
  joined_code : (a b : Option ℕ) → CodedLabel a → CodedLabel b → CodedLabel (joined joins a b)
  joined_code None b ca cb = tt
  joined_code (Some a) None ca cb = tt
  joined_code (Some a) (Some b) ca cb = join_code law ca cb

  joined_splits : (a b : Option ℕ) (l : ℕ) → CodedLabel a → CodedLabel b → Code l →
      flowing flows (joined joins a b) (Some l) ≡ (flowing flows a (Some l) && has_label b (λ x. flows x l))
  joined_splits None b l ca cb cl = refl
  joined_splits (Some a) None l ca cb cl = sym (and-false (flows a l))
  joined_splits (Some a) (Some b) l ca cb cl = join_splits law a b l ca cb cl

  -- one more slot is read
  pub source_more : (Γ : ℕ → Option ℕ) (γ : ℕ) (slots : List ℕ) (source : Option ℕ) (slot : ℕ) (next : Option ℕ) →
      Source flows γ (map Γ slots) source → CodedLabel (Γ slot) → next ≡ joined joins source (Γ slot) → Source flows γ (map Γ (slots ++ (slot ∷ []))) next
  source_more Γ γ slots source slot next so_far cm e =
      let labels = map Γ slots in
      let m = Γ slot in
      subst (λ (ms : List (Option ℕ)). Source flows γ ms next) (sym (map-append Γ slots (slot ∷ [])))
      (subst (λ (s : Option ℕ). Source flows γ (labels ++ (m ∷ [])) s) (sym e)
      (record {
        code = joined_code source m so_far.code cm;
        splits = λ l cl.
            joined_splits source m l so_far.code cm cl
            ∙ ap (λ (b : Bool). b && has_label m (λ a. flows a l)) (so_far.splits l cl)
            ∙ and_assoc (flows γ l) (all_below flows labels l) (has_label m (λ a. flows a l))
            ∙ ap (λ (b : Bool). flows γ l && b) (sym (below_more flows labels m l));
      }))
