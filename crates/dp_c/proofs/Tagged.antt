-- A body of GCM is its enciphered part and, behind it, the tag.
use Rattle.std.proofs.Common.{◌≡◌, ◌≢◌, ℕ, ◌-◌, List, ◌++◌, length, take, drop, Bool, true, false, refl, sym, ap, ◌∙◌, arith, length-append}
use Rattle.std.proofs.lemmas.List.{take-append-drop, take_at, drop_at}
use Rattle.std.proofs.lemmas.Bool.Decides.{not_from_Decides}
use Rattle.std.proofs.lemmas.Slice.Eq.{bytes_eq-Decides}
use Rattle.std.specs.Bool.{Decides}
use Rattle.std.specs.Str.{bytes_eq}
use Rattle.gcm_mode.specs.Ctr.{ctr}
use Rattle.gcm_mode.specs.Gcm.{gcm_tag, sealed}

-- bytes that don't differ are the same
settled : {P : Type 0} (r : Bool) → Decides r P → (¬ (¬ P)) → P
settled true told given = told.0 refl
settled false told given = absurd (given (not_from_Decides false told refl))

pub no_other : (xs ys : List ℕ) → (¬ (xs ≢ ys)) → xs ≡ ys
no_other xs ys given = settled (bytes_eq xs ys) (bytes_eq-Decides xs ys) given

module _ (f : List ℕ → List ℕ) (nonce aad text body : List ℕ) where
  -- the parts make the body
  pub sealed-parts : (n : ℕ) → take n body ≡ ctr f nonce text → drop n body ≡ gcm_tag f nonce aad (take n body) → body ≡ sealed f nonce aad text
  sealed-parts n c t =
      let both : take n body ++ drop n body ≡ ctr f nonce text ++ gcm_tag f nonce aad (ctr f nonce text) = cc in
      sym (take-append-drop n body) ∙ both

  module _ (full : length (gcm_tag f nonce aad (ctr f nonce text)) ≡ 16) (is : body ≡ sealed f nonce aad text) where
    before_tag : length (ctr f nonce text) ≡ length body - 16
    before_tag =
        let all = ap length is in
        let both = length-append (ctr f nonce text) (gcm_tag f nonce aad (ctr f nonce text)) in
        omega arith

    -- the body has the parts
    pub front-sealed : take (length body - 16) body ≡ ctr f nonce text
    front-sealed =
        ap (take (length body - 16)) is ∙ take_at (ctr f nonce text) (gcm_tag f nonce aad (ctr f nonce text)) (length body - 16) before_tag

    pub tag-sealed : drop (length body - 16) body ≡ gcm_tag f nonce aad (take (length body - 16) body)
    tag-sealed =
        ap (drop (length body - 16)) is
        ∙ drop_at (ctr f nonce text) (gcm_tag f nonce aad (ctr f nonce text)) (length body - 16) before_tag
        ∙ ap (gcm_tag f nonce aad) (sym front-sealed)
