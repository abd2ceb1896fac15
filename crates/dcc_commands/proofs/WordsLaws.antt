-- The parts of the words, as they are found one after another.
use Rattle.std.proofs.Common.{◌≡◌, ℕ, ◌≤◌, true, false, List, [], ◌∷◌, ◌++◌, length, Option, Some, None, refl, sym, ap, ◌∙◌, subst, append_assoc, length-append, append-nil, arith}
use Rattle.std.specs.Prelude.{is_some, IsSome, MatchOption, if◌then◌else◌}
use Rattle.std.specs.Option.{option_map, option_and_then}
use Rattle.dcc_commands.specs.Words.{Job, Parts, only_positional, with_word, with_value, set_value, value_in, Kind, Positional, End, Names, Gives, Unknown, kind_of, with_kind, parts_after, parts_of, without, with_one, with_three, job_with}
use Rattle.dcc_commands.specs.WordsRead.{HasFourWords, parts_read}
use Rattle.dcc_commands.specs.declared.words.Found.{Found}
use Rattle.dcc_commands.specs.declared.words.Command.{Command}
use Rattle.dcc_commands.specs.declared.words.Command.TheVariants.{Makes, Run, Watch, RunC, Asm, Trial}
use Rattle.dcc_commands.specs.declared.words.OptionName.{OptionName}
use Rattle.dcc_commands.specs.declared.words.OptionName.TheVariants.{Steps, Fill, Cpu}

-- one of two values of an option, where not both stand
abbrev merged : Option (List ℕ) → Option (List ℕ) → Option (Option (List ℕ))
merged None other = Some other
merged (Some value) None = Some (Some value)
merged (Some value) (Some other) = None

-- parts of these positional words and these values, where no option stands twice
abbrev built : List (List ℕ) → Option (Option (List ℕ)) → Option (Option (List ℕ)) → Option (Option (List ℕ))
    → Option Parts
built words None fill cpu = None
built words (Some steps) None cpu = None
built words (Some steps) (Some fill) None = None
built words (Some steps) (Some fill) (Some cpu) = Some (record
    { positional = words; steps = steps; fill = fill; cpu = cpu })

-- parts with others in front, where no option stands in both
abbrev pub joined : Parts → Option Parts → Option Parts
joined front None = None
joined front (Some parts) =
    built (front.positional ++ parts.positional) (merged front.steps parts.steps) (merged front.fill parts.fill)
    (merged front.cpu parts.cpu)

-- what the parts are by the kind of the first word
unfoldable pub by_kind : List ℕ → List (List ℕ) → Kind → Option Parts
by_kind word words kind = with_kind word words (parts_of words) (λ name. parts_after (Some name) words) kind

parts-by_kind : (word : List ℕ) (words : List (List ℕ)) → parts_of (word ∷ words) ≡ by_kind word words (kind_of word)
unfolding by_kind
parts-by_kind word words = refl

pub parts-at_kind : (word : List ℕ) (words : List (List ℕ)) (kind : Kind) → kind ≡ kind_of word
    → parts_of (word ∷ words) ≡ by_kind word words kind
parts-at_kind word words kind is = parts-by_kind word words ∙ ap (λ k. by_kind word words k) (sym is)

-- the fill stands twice, or the processor does
built-no_fill : (words : List (List ℕ)) (steps cpu : Option (Option (List ℕ))) → built words steps None cpu ≡ None
built-no_fill words None cpu = refl
built-no_fill words (Some steps) cpu = refl

built-no_cpu : (words : List (List ℕ)) (steps fill : Option (Option (List ℕ))) → built words steps fill None ≡ None
built-no_cpu words None fill = refl
built-no_cpu words (Some steps) None = refl
built-no_cpu words (Some steps) (Some fill) = refl

built-four : (words : List (List ℕ)) (steps fill cpu : Option (Option (List ℕ))) → 4 ≤ length words
    → HasFourWords (built words steps fill cpu)
built-four words None fill cpu h = tt
built-four words (Some steps) None cpu h = tt
built-four words (Some steps) (Some fill) None h = tt
built-four words (Some steps) (Some fill) (Some cpu) h = h

-- one more positional word
joined-word : (front : Parts) (word : List ℕ) (others : Option Parts) →
    joined front (option_map (with_word word) others)
    ≡ joined (record front { positional = front.positional ++ word ∷ [] }) others
joined-word front word None = refl
joined-word front word (Some parts) =
    ap (λ l. built l (merged front.steps parts.steps) (merged front.fill parts.fill) (merged front.cpu parts.cpu))
    (sym (append_assoc front.positional (word ∷ []) parts.positional))

four-words : (front : List (List ℕ)) (word : List ℕ) (back : List (List ℕ)) → 3 ≤ length front
    → 4 ≤ length (front ++ (word ∷ back))
four-words front word back h = simp length-append (omega arith)

joined-four : (front : Parts) (word : List ℕ) (others : Option Parts) → 3 ≤ length front.positional
    → HasFourWords (joined front (option_map (with_word word) others))
joined-four front word None h = tt
joined-four front word (Some parts) h =
    built-four (front.positional ++ (word ∷ parts.positional)) (merged front.steps parts.steps)
    (merged front.fill parts.fill) (merged front.cpu parts.cpu)
    (four-words front.positional word parts.positional h)

-- one more option

-- the parts of both, with this value of one option
abbrev built_with : Parts → Parts → OptionName → Option (Option (List ℕ)) → Option Parts
built_with front parts Steps value = built (front.positional ++ parts.positional) value (merged front.fill parts.fill)
    (merged front.cpu parts.cpu)
built_with front parts Fill value = built (front.positional ++ parts.positional) (merged front.steps parts.steps)
    value (merged front.cpu parts.cpu)
built_with front parts Cpu value = built (front.positional ++ parts.positional) (merged front.steps parts.steps)
    (merged front.fill parts.fill) value

-- there are none where it stands in both
none-twice : (front parts : Parts) (name : OptionName) → built_with front parts name None ≡ None
none-twice front parts Steps = refl
none-twice front parts Fill = built-no_fill (front.positional ++ parts.positional) (merged front.steps parts.steps)
    (merged front.cpu parts.cpu)
none-twice front parts Cpu = built-no_cpu (front.positional ++ parts.positional) (merged front.steps parts.steps)
    (merged front.fill parts.fill)

-- the option stands in the later parts, or in those in front
later-value : (front parts : Parts) (name : OptionName) (value : List ℕ)
    → joined front (Some (set_value name value parts)) ≡ built_with front parts name
    (merged (value_in name front) (Some value))
later-value front parts Steps value = refl
later-value front parts Fill value = refl
later-value front parts Cpu value = refl

front-value : (front parts : Parts) (name : OptionName) (value : List ℕ)
    → built_with front parts name (merged (Some value) (value_in name parts)) ≡ joined (set_value name value front)
    (Some parts)
front-value front parts Steps value = refl
front-value front parts Fill value = refl
front-value front parts Cpu value = refl

fresh-value : (front parts : Parts) (name : OptionName) (value : List ℕ) → value_in name front ≡ None
    → (other : Option (List ℕ)) →
    joined front (if is_some other then None else Some (set_value name value parts)) ≡ built_with front parts name
    (merged (Some value) other)
fresh-value front parts name value h None = later-value front parts name value ∙ ap
    (λ o. built_with front parts name (merged o (Some value))) h
fresh-value front parts name value h (Some other) = sym (none-twice front parts name)

joined-value : (front : Parts) (name : OptionName) (value : List ℕ) (others : Option Parts)
    → value_in name front ≡ None →
    joined front (with_value name value others) ≡ joined (set_value name value front) others
joined-value front name value None h = refl
joined-value front name value (Some parts) h = fresh-value front parts name value h (value_in name parts)
    ∙ front-value front parts name value

merged-taken : (standing : Option (List ℕ)) (value : List ℕ) → IsSome standing → merged standing (Some value) ≡ None
merged-taken None value h = absurd (let f : ⊥ = cc in f)
merged-taken (Some old) value h = refl

joined-taken : (front : Parts) (name : OptionName) (value : List ℕ) (others : Option Parts)
    → IsSome (value_in name front) → joined front (with_value name value others) ≡ None
joined-taken front name value None h = refl
joined-taken front name value (Some parts) h = elim (is_some (value_in name parts)) as
    (λ b. joined front (if b then None else Some (set_value name value parts)) ≡ None) [
      | true ↦ refl
      | false ↦ later-value front parts name value ∙ ap (built_with front parts name)
          (merged-taken (value_in name front) value h) ∙ none-twice front parts name
    ]

-- The steps of the reader, from what was found so far, with the first word of those that are left.

-- nothing more is read
pub none-when : (parts : Option Parts) → parts ≡ None → HasFourWords parts
none-when parts h = subst HasFourWords (sym h) tt

pub step-word : (found next : Parts) (all : Option Parts) (word : List ℕ) (words : List (List ℕ))
    → joined found (parts_of (word ∷ words)) ≡ all → Positional ≡ kind_of word →
    next ≡ record found { positional = found.positional ++ word ∷ [] } → joined next (parts_of words) ≡ all
unfolding by_kind
step-word found next all word words inv kind is =
    ap (λ p. joined p (parts_of words)) is ∙ sym (joined-word found word (parts_of words)) ∙ ap (joined found)
    (sym (parts-at_kind word words Positional kind)) ∙ inv

pub stop-word : (found : Parts) (all : Option Parts) (word : List ℕ) (words : List (List ℕ))
    → joined found (parts_of (word ∷ words)) ≡ all → Positional ≡ kind_of word →
    3 ≤ length found.positional → HasFourWords all
unfolding by_kind
stop-word found all word words inv kind some =
    subst HasFourWords (ap (joined found) (sym (parts-at_kind word words Positional kind)) ∙ inv)
    (joined-four found word (parts_of words) some)

pub step-given : (found next : Parts) (all : Option Parts) (name : OptionName) (word value : List ℕ)
    (words : List (List ℕ)) → joined found (parts_of (word ∷ words)) ≡ all →
    Gives name value ≡ kind_of word →
    value_in name found ≡ None → next ≡ set_value name value found → joined next (parts_of words) ≡ all
unfolding by_kind
step-given found next all name word value words inv kind none is =
    ap (λ p. joined p (parts_of words)) is ∙ sym (joined-value found name value (parts_of words) none) ∙ ap
    (joined found) (sym (parts-at_kind word words (Gives name value) kind)) ∙ inv

pub stop-given : (found : Parts) (all : Option Parts) (name : OptionName) (word value : List ℕ)
    (words : List (List ℕ)) → joined found (parts_of (word ∷ words)) ≡ all →
    Gives name value ≡ kind_of word →
    IsSome (value_in name found) → HasFourWords all
unfolding by_kind
stop-given found all name word value words inv kind some =
    none-when all (sym inv ∙ ap (joined found) (parts-at_kind word words (Gives name value) kind) ∙ joined-taken found
    name value (parts_of words) some)

pub step-named : (found next : Parts) (all : Option Parts) (name : OptionName) (word value : List ℕ)
    (words : List (List ℕ)) → joined found (parts_of (word ∷ (value ∷ words))) ≡ all →
    Names name ≡ kind_of word →
    value_in name found ≡ None → next ≡ set_value name value found → joined next (parts_of words) ≡ all
unfolding by_kind
step-named found next all name word value words inv kind none is =
    ap (λ p. joined p (parts_of words)) is ∙ sym (joined-value found name value (parts_of words) none) ∙ ap
    (joined found) (sym (parts-at_kind word (value ∷ words) (Names name) kind)) ∙ inv

pub stop-named : (found : Parts) (all : Option Parts) (name : OptionName) (word value : List ℕ)
    (words : List (List ℕ)) → joined found (parts_of (word ∷ (value ∷ words))) ≡ all →
    Names name ≡ kind_of word →
    IsSome (value_in name found) → HasFourWords all
unfolding by_kind
stop-named found all name word value words inv kind some =
    none-when all (sym inv ∙ ap (joined found) (parts-at_kind word (value ∷ words) (Names name) kind) ∙ joined-taken
    found name value (parts_of words) some)

-- an option's value is missing
pub stop-missing : (found : Parts) (all : Option Parts) (name : OptionName) (word : List ℕ) (words : List (List ℕ))
    → joined found (parts_of (word ∷ words)) ≡ all → Names name ≡ kind_of word →
    length words ≡ 0 → HasFourWords all
unfolding by_kind
stop-missing found all name word [] inv kind h = none-when all
    (sym inv ∙ ap (joined found) (parts-at_kind word [] (Names name) kind))
stop-missing found all name word (w ∷ ws) inv kind h = absurd (omega arith)

pub stop-unknown : (found : Parts) (all : Option Parts) (word : List ℕ) (words : List (List ℕ))
    → joined found (parts_of (word ∷ words)) ≡ all → Unknown ≡ kind_of word → HasFourWords all
unfolding by_kind
stop-unknown found all word words inv kind = none-when all (sym inv ∙ ap (joined found)
    (parts-at_kind word words Unknown kind))

merged-none : (value : Option (List ℕ)) → merged value None ≡ Some value
merged-none None = refl
merged-none (Some value) = refl

joined-only : (front : Parts) (words : List (List ℕ))
    → joined front (Some (only_positional words)) ≡ Some (record front { positional = front.positional ++ words })
joined-only front words =
    ap (λ m. built (front.positional ++ words) m (merged front.fill None) (merged front.cpu None))
    (merged-none front.steps)
    ∙ ap (λ m. built (front.positional ++ words) (Some front.steps) m (merged front.cpu None)) (merged-none front.fill)
    ∙ ap (λ m. built (front.positional ++ words) (Some front.steps) (Some front.fill) m) (merged-none front.cpu)

-- after `--`
all-end : (found : Parts) (all : Option Parts) (word : List ℕ) (words : List (List ℕ))
    → joined found (parts_of (word ∷ words)) ≡ all → End ≡ kind_of word →
    all ≡ Some (record found { positional = found.positional ++ words })
unfolding by_kind
all-end found all word words inv kind =
    sym inv ∙ ap (joined found) (parts-at_kind word words End kind) ∙ joined-only found words

-- at the end of the words
pub all-read : (found : Parts) (all : Option Parts) → joined found (parts_of []) ≡ all → all ≡ Some found
all-read found all inv =
    sym inv ∙ joined-only found [] ∙ ap (λ l. Some (record found { positional = l })) (append-nil found.positional)

-- what is answered after `--`
pub all-answer : (found : Parts) (all : Option Parts) (word : List ℕ) (words : List (List ℕ)) (answer : Option Found)
    → joined found (parts_of (word ∷ words)) ≡ all → End ≡ kind_of word →
    MatchOption answer (4 ≤ length (found.positional ++ words))
    (λ f. parts_read f ≡ record found { positional = found.positional ++ words }) →
    MatchOption answer (HasFourWords all) (λ f. all ≡ Some (parts_read f))
all-answer found all word words None inv kind h = subst HasFourWords (sym (all-end found all word words inv kind)) h
all-answer found all word words (Some f) inv kind h = all-end found all word words inv kind ∙ ap (λ p. Some p) (sym h)

-- no command takes four positional words
no-one : (job : List ℕ → Option Job) (words : List (List ℕ)) → 4 ≤ length words → with_one job words ≡ None
no-one job [] h = absurd (omega arith)
no-one job (a ∷ []) h = absurd (omega arith)
no-one job (a ∷ (b ∷ ws)) h = refl

no-three : (job : List ℕ → List ℕ → List ℕ → Option Job) (words : List (List ℕ)) → 4 ≤ length words
    → with_three job words ≡ None
no-three job [] h = absurd (omega arith)
no-three job (a ∷ []) h = absurd (omega arith)
no-three job (a ∷ (b ∷ [])) h = absurd (omega arith)
no-three job (a ∷ (b ∷ (c ∷ []))) h = absurd (omega arith)
no-three job (a ∷ (b ∷ (c ∷ (d ∷ ws)))) h = refl

without-none : (value : Option (List ℕ)) (job : Option Job) → job ≡ None → without value job ≡ None
without-none None job h = h
without-none (Some value) job h = refl

four-no_job : (command : Command) (parts : Parts) → 4 ≤ length parts.positional → job_with command parts ≡ None
four-no_job (Makes product) parts h =
    without-none parts.steps _ (without-none parts.fill _ (no-one _ parts.positional h))
four-no_job Run parts h = without-none parts.fill _ (no-one _ parts.positional h)
four-no_job Watch parts h = without-none parts.fill _ (no-one _ parts.positional h)
four-no_job RunC parts h = without-none parts.cpu _ (no-one _ parts.positional h)
four-no_job Asm parts h =
    without-none parts.steps _ (without-none parts.fill _ (without-none parts.cpu _ (no-one _ parts.positional h)))
four-no_job Trial parts h =
    without-none parts.steps _ (without-none parts.fill _ (without-none parts.cpu _ (no-three _ parts.positional h)))

pub four-no_command : (command : Option Command) (parts : Option Parts) → HasFourWords parts →
    option_and_then (λ c. option_and_then (job_with c) parts) command ≡ None
four-no_command None parts h = refl
four-no_command (Some command) None h = refl
four-no_command (Some command) (Some parts) h = four-no_job command parts h
