-- Words as lists of texts, and the forms that they are of.
use Rattle.std.proofs.Common.{◌≡◌, ℕ, ◌-◌, ◌<◌, ◌≤◌, List, [], ◌∷◌, length, get_or, take, drop, map, string_bytes, codes, String, Global, Bool, Option, option_map, Some, None, IfSome, refl, ap, subst, ◌∙◌, arith}
use Rattle.std.proofs.lemmas.List.{take_all}
use Rattle.std.specs.Fmt.{decimal}
use Rattle.dp_base.specs.declared.ticks.TheConstants.{MAX_TICKS}
use Rattle.dp_answer.specs.declared.app.TheConstants.{MAX_APP}
use Rattle.dp_server.specs.declared.words.Command.{Command}
use Rattle.dp_server.specs.declared.words.Command.TheVariants as commands
use Rattle.dp_server.specs.declared.words.PipeOptions.{PipeOptions}
use Rattle.dp_server.specs.Words.{IsShow, IsPipe, Settings, AreOptions}
use Rattle.dp_server.specs.Commands.{Form, Show, Pipe, form_of, IsForm, settings_of}
use Rattle.dp_server.proofs.Options.{short_name}

-- a list with a first item, and with two
first_item : {X : Type 0} (xs : List X) (a : X) → 1 ≤ length xs → a ≡ get_or xs 0 a → xs ≡ a ∷ take (length xs - 1) (drop 1 xs)
first_item [] a low first = absurd (omega arith)
first_item (x ∷ xs) a low first = let e = take_all (length (x ∷ xs) - 1) xs (omega arith) in cc

two_items : {X : Type 0} (xs : List X) (a b : X) → 2 ≤ length xs → a ≡ get_or xs 0 a → b ≡ get_or xs 1 b → xs ≡ a ∷ b ∷ take (length xs - 2) (drop 2 xs)
two_items [] a b low first second = absurd (omega arith)
two_items (x ∷ []) a b low first second = absurd (omega arith)
two_items (x ∷ y ∷ xs) a b low first second = let e = take_all (length (x ∷ y ∷ xs) - 2) xs (omega arith) in cc

abbrev pub texts : List (String Global) → List (List ℕ)
texts = map (string_bytes {Z = Global})

-- the texts of words with a first word, and with two
pub first_word : (words : List (String Global)) (a : String Global) (text : List ℕ) → 1 ≤ length words → a ≡ get_or words 0 a → string_bytes a ≡ text
    → texts words ≡ text ∷ texts (take (length words - 1) (drop 1 words))
first_word words a text low first e = ap texts (first_item words a low first) ∙ ap (λ (t : List ℕ). t ∷ texts (take (length words - 1) (drop 1 words))) e

pub two_words : (words : List (String Global)) (a b : String Global) (text text' : List ℕ) → 2 ≤ length words → a ≡ get_or words 0 a → b ≡ get_or words 1 b → string_bytes a ≡ text → string_bytes b ≡ text'
    → texts words ≡ text ∷ text' ∷ texts (take (length words - 2) (drop 2 words))
two_words words a b text text' low first second e e' =
    ap texts (two_items words a b low first second)
    ∙ ap (λ (t : List ℕ). t ∷ string_bytes b ∷ texts (take (length words - 2) (drop 2 words))) e
    ∙ ap (λ (t : List ℕ). text ∷ t ∷ texts (take (length words - 2) (drop 2 words))) e'

pub just_two : (words : List (String Global)) (a b : String Global) (text text' : List ℕ) → 2 ≤ length words → length words < 3 → a ≡ get_or words 0 a → b ≡ get_or words 1 b → string_bytes a ≡ text → string_bytes b ≡ text'
    → texts words ≡ text ∷ text' ∷ []
just_two words a b text text' low high first second e e' =
    let none : length words - 2 ≡ 0 = omega arith in
    two_words words a b text text' low first second e e' ∙ ap (λ (n : ℕ). text ∷ text' ∷ texts (take n (drop 2 words))) none

pub texts_none : (words : List (String Global)) → length words ≡ 0 → texts words ≡ []
texts_none [] e = refl
texts_none (w ∷ words) e = absurd (omega arith)

pub texts_some : (words : List (String Global)) → (length words ≡ 0 → ⊥) → texts words ≡ [] → ⊥
texts_some [] some e = some refl
texts_some (w ∷ words) some e = cc

-- words of a show, where the second one's moment is known
pub shown : (words : List (List ℕ)) (text : List ℕ) (r : Option ℕ) → words ≡ codes "show" ∷ text ∷ [] → IfSome r (λ n. (text ≡ decimal n) × (n ≤ MAX_TICKS)) → IfSome r (IsShow words)
shown words text None e value = value
shown words text (Some n) e value = (cc (e, value.0), value.1)

-- words of a pipe, where it is known what its options set
pub piped : (words rest : List (List ℕ)) (r : Option PipeOptions) → words ≡ codes "pipe" ∷ rest → IfSome r (λ o. AreOptions rest (settings_of o)) → IfSome r (λ o. IsPipe words o.auto o.app.now)
piped words rest None e value = value
piped words rest (Some o) e value = (rest, e, value)

-- words of neither form are of none
pub no_form : (words : List (List ℕ)) → ((moment : ℕ) → IsShow words moment → ⊥) → ((auto : Bool) (app : List ℕ) → IsPipe words auto app → ⊥) → (form : Form) → IsForm words form → ⊥
no_form words no_show no_pipe (Show moment) h = no_show moment h
no_form words no_show no_pipe (Pipe auto app) h = no_pipe auto app h

-- and words of a pipe alone are of its form alone
pub one_form : (words : List (List ℕ)) (auto : Bool) (app : List ℕ) → ((moment : ℕ) → IsShow words moment → ⊥)
    → ((auto' : Bool) (app' : List ℕ) → IsPipe words auto' app' → ◌≡◌ {A = Option Settings} (Some (record { auto = auto; app = app })) (Some (record { auto = auto'; app = app' })))
    → (form : Form) → IsForm words form → Some (Pipe auto app) ≡ Some form
one_form words auto app no_show only (Show moment) h = absurd (no_show moment h)
one_form words auto app no_show only (Pipe auto' app') h =
    let both = only auto' app' h in
    let same : ◌≡◌ {A = Settings} (record { auto = auto; app = app }) (record { auto = auto'; app = app' }) = cc in
    ap (λ (s : Settings). Some (Pipe s.auto s.app)) same

-- the name that words of a pipe tell is short
pub name_fits : (words : List (List ℕ)) (auto : Bool) (app : List ℕ) → IsPipe words auto app → length app ≤ MAX_APP
name_fits words auto app h = subst (λ (s : Settings). length s.app ≤ MAX_APP) h.2.settle (short_name h.2.options h.2.lawful)

-- words that ask for a show are of the form of its moment alone
pub same_moment : (r : Option Command) (f : Command) (m n : ℕ) → r ≡ Some f → f ≡ commands.Show m → option_map form_of r ≡ Some (Show n) → m ≡ n
same_moment r f m n e g p =
    let q : option_map form_of (Some (commands.Show m)) ≡ Some (Show n) = subst (λ (t : Option Command). option_map form_of t ≡ Some (Show n)) (e ∙ ap Some g) p in
    cc

-- and words that ask for a pipe of the form of its options alone
pub same_options : (r : Option Command) (f : Command) (o : PipeOptions) (auto : Bool) (app : List ℕ) → r ≡ Some f → f ≡ commands.Pipe o → option_map form_of r ≡ Some (Pipe auto app) → (o.auto ≡ auto) × (o.app.now ≡ app)
same_options r f o auto app e g p =
    let q : option_map form_of (Some (commands.Pipe o)) ≡ Some (Pipe auto app) = subst (λ (t : Option Command). option_map form_of t ≡ Some (Pipe auto app)) (e ∙ ap Some g) p in
    (cc, cc)
