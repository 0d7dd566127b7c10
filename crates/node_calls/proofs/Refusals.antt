-- What the calls of the repository leave.
use Rattle.std.proofs.Common.{◌≡◌, ℕ, ◌+◌, ◌-◌, Bool, true, false, List, [], ◌∷◌, ◌++◌, length, drop, refl, sym, ap, ◌∙◌, Option, Some, None, Ok, Err, subst, inl, inr, arith, IfSome}
use Rattle.std.proofs.lemmas.List.{append-nil, length-append}
use Rattle.std.proofs.Math.Seq.{take-append_seam, drop-append_seam}
use Rattle.dp_base.specs.Draws.{DrawState}
use Rattle.key_elements.specs.declared.element.Element.{Element}
use Rattle.key_elements.specs.declared.list.TheConstants.{MAX_ELEMENTS}
use Rattle.repo_keeper.specs.declared.repo.RepoError.{RepoError}
use Rattle.repo_keeper.specs.declared.repo.RepoError.TheVariants.{Failed, Short, Full, Memory}
use Rattle.repo_keeper.specs.Store.{Store, Moved, refused_tally, IsCause, IsReadCause, IsTail, EndsWith, one_call}
use Rattle.ring_world.specs.declared.step.Step.{Step}
use Rattle.ring_world.specs.declared.step.Step.TheVariants.{ReadFailed, WentBack, AppendFull, AppendFailed, Appended, Read, PrivateRead}
use Rattle.ring_world.specs.Course.{stepped}
use Rattle.ring_world.specs.Lists.{IsReadFrom, IsGrown, IsFilled}
use Rattle.ring_world.specs.Flight.{Memory as MemoryRefused}
use Rattle.node_calls.specs.HostState.{HostState}
use Rattle.node_calls.specs.Books.{books, Recorded, Does}
use Rattle.node_calls.specs.Gather.{refused_as, refusal_steps, read_step, unnoted_call, ReadGives, AppendGives}
use Rattle.node_calls.proofs.Books.{stored, unnoted}

-- the list from the base on
pub read_from : (told : Option (List Element)) (base tail es : List Element) (known : ℕ) → known ≡ length base → es ≡ base ++ tail → IsTail known tail told → IsReadFrom told base es
read_from None base tail es known k e t = (rw e (take-append_seam base tail), tt)
read_from (Some list) base tail es known k e t =
    (rw e (take-append_seam base tail), (omega (arith, t.2.0), rw e (drop-append_seam base tail ∙ t.2.1 ∙ ap (λ n. drop n list) k)))

-- an append leaves a longer list that ends with the element
pub appended : (e : Element) (known : ℕ) (es tail : List Element) → known ≡ length es → EndsWith e tail → (known + length tail - 1 ≡ length (es ++ tail) - 1) × IsGrown es e (es ++ tail)
appended e known es tail k t =
    (omega (arith, length-append es tail), (t.0, ap (λ z. es ++ z) t.1))

-- as many elements stand as may
filled : (told : Option (List Element)) (count : ℕ) → count ≡ MAX_ELEMENTS → IfSome told (λ list. length list ≡ count) → IsFilled told
filled told count e h = subst (λ n. IfSome told (λ list. length list ≡ n)) e h

module _ (steps steps' : List Step) (host : HostState) (st st' : Store) (w : DrawState) where
  -- a call without a step, where the steps stayed
  stayed : steps' ≡ steps ++ [] → Moved one_call st st' → Recorded unnoted_call (books steps host st w) (books steps' host st' w)
  stayed e m = let e' : steps ≡ steps' = sym (e ∙ append-nil steps) in
      subst (λ x. Recorded unnoted_call (books steps host st w) (books x host st' w)) e' (unnoted steps host st st' w m)

  pub read_refused : (private : Bool) (told : Option (List Element)) (base : List Element) (known : ℕ) (why : RepoError) → known ≡ length base → Moved (refused_tally why) st st' → steps' ≡ steps ++ refusal_steps known ReadFailed why → IsReadCause known told why → Does (ReadGives private told base (Err (refused_as known why))) (books steps host st w) (books steps' host st' w)
  read_refused private told base known Failed k m e c =
      record { course = stepped (ReadFailed ∷ []); recorded = stored ReadFailed steps steps' host st st' w (λ _. refl) (λ _. refl) (λ _. refl) refl refl refl refl e m; is = refl }
  read_refused private told base known (Short have) k m e c =
      record { course = stepped (WentBack known have ∷ []); recorded = stored (WentBack known have) steps steps' host st st' w (λ _. refl) (λ _. refl) (λ _. refl) refl refl refl refl e m; is = (k, c, refl) }
  read_refused private told base known (Full count) k m e c = elim c [ ]
  read_refused private told base known Memory k m e c =
      record { course = unnoted_call; recorded = stayed e m; is = inl refl }

  pub append_refused : (told : Option (List Element)) (es : List Element) (element : Element) (known : ℕ) (why : RepoError) → known ≡ length es → Moved (refused_tally why) st st' → steps' ≡ steps ++ refusal_steps known AppendFailed why → IsCause known told why → Does (AppendGives told es element (Err (refused_as known why))) (books steps host st w) (books steps' host st' w)
  append_refused told es element known Failed k m e c =
      record { course = stepped (AppendFailed ∷ []); recorded = stored AppendFailed steps steps' host st st' w (λ _. refl) (λ _. refl) (λ _. refl) refl refl refl refl e m; is = refl }
  append_refused told es element known (Short have) k m e c =
      record { course = stepped (WentBack known have ∷ []); recorded = stored (WentBack known have) steps steps' host st st' w (λ _. refl) (λ _. refl) (λ _. refl) refl refl refl refl e m; is = (k, c, refl) }
  append_refused told es element known (Full count) k m e c =
      record { course = stepped (AppendFull ∷ []); recorded = stored AppendFull steps steps' host st st' w (λ _. refl) (λ _. refl) (λ _. refl) refl refl refl refl e m; is = (c.0, filled told count c.0 c.2, refl) }
  append_refused told es element known Memory k m e c =
      record { course = unnoted_call; recorded = stayed e m; is = inl refl }

  -- the step of a read, whether or not memory was found for its list
  pub read_noted : (private : Bool) (es : List Element) (front : ℕ) → front ≡ length es → Moved one_call st st' → steps' ≡ steps ++ read_step private front ∷ [] → Recorded (stepped (read_step private (length es) ∷ [])) (books steps host st w) (books steps' host st' w)
  read_noted true es front k m e = stored (PrivateRead (length es)) steps steps' host st st' w (λ _. refl) (λ _. refl) (λ _. refl) refl refl refl refl (rw k at e) m
  read_noted false es front k m e = stored (Read (length es)) steps steps' host st st' w (λ _. refl) (λ _. refl) (λ _. refl) refl refl refl refl (rw k at e) m

  pub read_gave : (private : Bool) (told : Option (List Element)) (base es : List Element) (front : ℕ) → front ≡ length es → Moved one_call st st' → steps' ≡ steps ++ read_step private front ∷ [] → IsReadFrom told base es → Does (ReadGives private told base (Ok es)) (books steps host st w) (books steps' host st' w)
  read_gave private told base es front k m e r =
      record { course = stepped (read_step private (length es) ∷ []); recorded = read_noted private es front k m e; is = (r, refl) }

  pub read_lost : (private : Bool) (told : Option (List Element)) (base es : List Element) (front : ℕ) → front ≡ length es → Moved one_call st st' → steps' ≡ steps ++ read_step private front ∷ [] → IsReadFrom told base es → Does (ReadGives private told base (Err MemoryRefused)) (books steps host st w) (books steps' host st' w)
  read_lost private told base es front k m e r =
      record { course = stepped (read_step private (length es) ∷ []); recorded = read_noted private es front k m e; is = inr (es, r, refl) }

  append_noted : (fs : List Element) (place : ℕ) → place ≡ length fs - 1 → Moved (record one_call { places = place ∷ [] }) st st' → steps' ≡ steps ++ Appended place ∷ [] → Recorded (stepped (Appended (length fs - 1) ∷ [])) (books steps host st w) (books steps' host st' w)
  append_noted fs place k m e = stored (Appended (length fs - 1)) steps steps' host st st' w (λ _. refl) (λ _. refl) (λ _. refl) refl refl refl refl (rw k at e) (rw k at m)

  pub append_gave : (told : Option (List Element)) (es : List Element) (element : Element) (fs : List Element) (place : ℕ) → place ≡ length fs - 1 → Moved (record one_call { places = place ∷ [] }) st st' → steps' ≡ steps ++ Appended place ∷ [] → IsReadFrom told es fs → IsGrown es element fs → Does (AppendGives told es element (Ok fs)) (books steps host st w) (books steps' host st' w)
  append_gave told es element fs place k m e r g =
      record { course = stepped (Appended (length fs - 1) ∷ []); recorded = append_noted fs place k m e; is = (r, g, refl) }

  pub append_lost : (told : Option (List Element)) (es : List Element) (element : Element) (fs : List Element) (place : ℕ) → place ≡ length fs - 1 → Moved (record one_call { places = place ∷ [] }) st st' → steps' ≡ steps ++ Appended place ∷ [] → IsReadFrom told es fs → IsGrown es element fs → Does (AppendGives told es element (Err MemoryRefused)) (books steps host st w) (books steps' host st' w)
  append_lost told es element fs place k m e r g =
      record { course = stepped (Appended (length fs - 1) ∷ []); recorded = append_noted fs place k m e; is = inr (fs, r, g, refl) }
