-- Sheets of which only the beginning is kept. Assumes nothing.
use Rattle.std.proofs.Common.{◌≡◌, ℕ, ◌-◌, ◌<◌, ◌≤◌, List, [], ◌∷◌, ◌++◌, length, get_or, take, drop, Some, None, Option, sym, refl, ap, ◌∙◌, arith}
use Rattle.std.specs.Option.{option_map}
use Rattle.std.proofs.lemmas.List.{append_assoc, take-append-le}
use Rattle.noninterference.specs.Monitor.{Call, lay, view, run}
use Rattle.console.specs.Clipping.{clipped}
use Rattle.numerals.specs.Fields.{cut}
use Rattle.console.specs.Reading.{and_then, number_below, value_in, byte_of, bytes_in, lay_in, view_in, run_fields, run_in}
use Rattle.console.proofs.Cutting.{two_and_rest}

-- ---- bytes into a buffer of `most` places, of which xs are filled

module _ (most : ℕ) (xs left : List ℕ) (b : ℕ) (two : 1 < length left) (e : byte_of (get_or left 0 0) (get_or left 1 0) ≡ Some b) where
  next : option_map (λ more. take most (xs ++ more)) (bytes_in left) ≡ option_map (λ more. take most (xs ++ more)) (option_map (λ bs. b ∷ bs) (bytes_in (take (length left - 2) (drop 2 left))))
  next = ap (λ (ds : List ℕ). option_map (λ more. take most (xs ++ more)) (bytes_in ds)) (two_and_rest left two) ∙ rw e

  -- one more byte goes in
  pub one_more : (ys : List ℕ) → ys ≡ xs ++ (b ∷ []) →
      option_map (λ more. take most (xs ++ more)) (bytes_in left) ≡ option_map (λ more. take most (ys ++ more)) (bytes_in (take (length left - 2) (drop 2 left)))
  one_more ys grown = next ∙ rw grown (go (bytes_in (take (length left - 2) (drop 2 left))))
    where
      go : (o : Option (List ℕ)) → option_map (λ more. take most (xs ++ more)) (option_map (λ bs. b ∷ bs) o) ≡ option_map (λ more. take most ((xs ++ (b ∷ [])) ++ more)) o
      go None = refl
      go (Some bs) = ap (λ (ds : List ℕ). Some (take most ds)) (sym (append_assoc xs (b ∷ []) bs))

  -- there is no place for it
  pub no_place : most ≤ length xs →
      option_map (λ more. take most (xs ++ more)) (bytes_in left) ≡ option_map (λ more. take most (xs ++ more)) (bytes_in (take (length left - 2) (drop 2 left)))
  no_place full = next ∙ go (bytes_in (take (length left - 2) (drop 2 left)))
    where
      go : (o : Option (List ℕ)) → option_map (λ more. take most (xs ++ more)) (option_map (λ bs. b ∷ bs) o) ≡ option_map (λ more. take most (xs ++ more)) o
      go None = refl
      go (Some bs) = ap Some (take-append-le most xs (b ∷ bs) full ∙ sym (take-append-le most xs bs full))

-- ---- calls

module _ (most : ℕ) where
  found : {A : Type 0} (o : Option A) (g : A → Option Call) → ((x : A) → option_map (clipped most) (g x) ≡ g x) → option_map (clipped most) (and_then o g) ≡ and_then o g
  found None g same = refl
  found (Some x) g same = same x

  made : {A : Type 0} (f : A → Call) → ((x : A) → clipped most (f x) ≡ f x) → (o : Option A) → option_map (clipped most) (option_map f o) ≡ option_map f o
  made f same None = refl
  made f same (Some x) = ap Some (same x)

  -- where there is no sheet nothing is left out
  pub lay_whole : (text : List ℕ) → option_map (clipped most) (lay_in text) ≡ lay_in text
  lay_whole text =
      found (cut text) _ (λ a. found (cut a.1) _ (λ b. found (number_below 256 a.0) _ (λ n.
      found (number_below 256 b.0) _ (λ i. made (lay n i) (λ v. refl) (value_in b.1)))))

  pub view_whole : (text : List ℕ) → option_map (clipped most) (view_in text) ≡ view_in text
  view_whole text = found (cut text) _ (λ a. found (number_below 256 a.0) _ (λ n. made (view n) (λ i. refl) (number_below 256 a.1)))

  pub run_clipped : (text digits kept : List ℕ) (n turns : ℕ) → run_fields text ≡ Some (n, turns, digits) → Some kept ≡ option_map (take most) (bytes_in digits) →
      Some (run n kept turns) ≡ option_map (clipped most) (run_in text)
  run_clipped text digits kept n turns fields bytes = rw fields (go (bytes_in digits) bytes)
    where
      go : (o : Option (List ℕ)) → Some kept ≡ option_map (take most) o → Some (run n kept turns) ≡ option_map (clipped most) (option_map (λ sheet. run n sheet turns) o)
      go None e = let z : ◌≡◌ {A = ℕ} 0 1 = cc in absurd (omega arith)
      go (Some bs) e = cc
