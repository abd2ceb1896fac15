-- The two ways to say which words ask for which job: as a relation and as a function.
use Rattle.std.proofs.Common.{◌≡◌, ◌⊎◌, ℕ, ◌<◌, Bool, true, false, List, [], ◌∷◌, ◌++◌, length, Option, Some, None, refl, sym, ap, ◌∙◌, subst, get_or, inl, inr, arith}
use Rattle.std.specs.Prelude.{is_some, if◌then◌else◌, codes, nat_lt}
use Rattle.std.specs.List.{position_or_len, before_first, after_first}
use Rattle.std.specs.Option.{option_map, option_and_then}
use Rattle.std.specs.Str.{bytes_eq}
use Rattle.std.proofs.lemmas.Bool.{eqb-true, ltb-true, lt-ltb}
use Rattle.std.proofs.lemmas.List.Sums.{split_at_first, passes_at_first}
use Rattle.std.proofs.lemmas.Slice.Eq.{bytes_eq-Decides}
use Rattle.dcc_commands.specs.Words.{Job, Make, Execute, ExecuteWatched, ExecuteText, Assemble, Try, Parts, only_positional, with_word, with_value, set_value, value_in, is_positional, option_word, command_word, HasParts, no_word, positional_word, option_in_two, option_in_one, end_of_options, AskFor, make, execute, execute_watched, execute_text, assemble, try, steps_of, fill_of, cpu_of, seed_of, size_of, Kind, Positional, End, Names, Gives, Unknown, option_of, command_of, named, given, is_equals, option_kind, kind_of, parts_after, parts_of, without, with_one, with_three, run_job, text_job, trial_job, job_with, job_of}
use Rattle.dcc_commands.specs.declared.job.Product.{Product}
use Rattle.dcc_commands.specs.declared.job.Product.TheVariants.{Text, Procedures, Listing}
use Rattle.dcc_commands.specs.declared.words.Command.{Command}
use Rattle.dcc_commands.specs.declared.words.Command.TheVariants.{Makes, Run, Watch, RunC, Asm, Trial}
use Rattle.dcc_commands.specs.declared.words.OptionName.{OptionName}
use Rattle.dcc_commands.specs.declared.words.OptionName.TheVariants.{Steps, Fill, Cpu}
use Rattle.dcc_machine.specs.declared.cpu.Cpu.{Cpu as Processor}
use Rattle.dcc_commands.proofs.WordsLaws.{by_kind, parts-at_kind}

-- From the relation to the function.

-- an option that didn't stand yet
add-value : (name : OptionName) (value : List ℕ) (parts : Parts) → value_in name parts ≡ None → with_value name value (Some parts) ≡ Some (set_value name value parts)
add-value name value parts none = ap (λ s. if is_some s then None else Some (set_value name value parts)) none

-- an option's name is its kind
kind-name : (name : OptionName) → Names name ≡ kind_of (option_word name)
kind-name Steps = refl
kind-name Fill = refl
kind-name Cpu = refl

kind-given : (name : OptionName) (value : List ℕ) → Gives name value ≡ kind_of (option_word name ++ (61 ∷ value))
kind-given Steps value =
    let test : nat_lt 7 (length (codes "--steps" ++ (61 ∷ value))) ≡ true = lt-ltb 7 (length (codes "--steps" ++ (61 ∷ value))) (omega arith) in
    ap (λ b. if b then Gives Steps value else named (option_of (codes "--steps" ++ (61 ∷ value)))) (sym test)
kind-given Fill value =
    let test : nat_lt 6 (length (codes "--fill" ++ (61 ∷ value))) ≡ true = lt-ltb 6 (length (codes "--fill" ++ (61 ∷ value))) (omega arith) in
    ap (λ b. if b then Gives Fill value else named (option_of (codes "--fill" ++ (61 ∷ value)))) (sym test)
kind-given Cpu value =
    let test : nat_lt 5 (length (codes "--cpu" ++ (61 ∷ value))) ≡ true = lt-ltb 5 (length (codes "--cpu" ++ (61 ∷ value))) (omega arith) in
    ap (λ b. if b then Gives Cpu value else named (option_of (codes "--cpu" ++ (61 ∷ value)))) (sym test)

kind-positional : (word : List ℕ) → is_positional word ≡ true → Positional ≡ kind_of word
kind-positional word h = ap (λ b. if b then Positional else (if bytes_eq word (codes "--") then End else option_kind word)) (sym h)

pub parts-is : (words : List (List ℕ)) (parts : Parts) → HasParts words parts → parts_of words ≡ Some parts
unfolding by_kind
parts-is _ _ no_word = refl
parts-is _ _ (positional_word {word} {words} {parts} h rest) =
    parts-at_kind word words Positional (kind-positional word h) ∙ ap (λ o. option_map (with_word word) o) (parts-is words parts rest)
parts-is _ _ (option_in_two name value words parts none rest) =
    parts-at_kind (option_word name) (value ∷ words) (Names name) (kind-name name)
    ∙ ap (λ o. with_value name value o) (parts-is words parts rest) ∙ add-value name value parts none
parts-is _ _ (option_in_one name value words parts none rest) =
    parts-at_kind (option_word name ++ (61 ∷ value)) words (Gives name value) (kind-given name value)
    ∙ ap (λ o. with_value name value o) (parts-is words parts rest) ∙ add-value name value parts none
parts-is _ _ (end_of_options {words}) = parts-at_kind (codes "--") words End refl

pub asked-is : (words : List (List ℕ)) (job : Job) → AskFor words job → job_of words ≡ Some job
unfolding job_of
asked-is _ _ (make {product = Text} {words} {file} {value} {cpu} parts is) =
    ap (λ o. option_and_then (job_with (Makes Text)) o) (parts-is words _ parts) ∙ ap (λ o. option_map (Make Text file) o) is
asked-is _ _ (make {product = Procedures} {words} {file} {value} {cpu} parts is) =
    ap (λ o. option_and_then (job_with (Makes Procedures)) o) (parts-is words _ parts)
    ∙ ap (λ o. option_map (Make Procedures file) o) is
asked-is _ _ (make {product = Listing} {words} {file} {value} {cpu} parts is) =
    ap (λ o. option_and_then (job_with (Makes Listing)) o) (parts-is words _ parts)
    ∙ ap (λ o. option_map (Make Listing file) o) is
asked-is _ _ (execute {words} {file} {value} {other} {steps} {cpu} parts is also) =
    ap (λ o. option_and_then (job_with Run) o) (parts-is words _ parts)
    ∙ ap (λ o. option_and_then (λ n. option_map (Execute file n) (cpu_of other)) o) is
    ∙ ap (λ o. option_map (Execute file steps) o) also
asked-is _ _ (execute_watched {words} {file} {value} {other} {steps} {cpu} parts is also) =
    ap (λ o. option_and_then (job_with Watch) o) (parts-is words _ parts)
    ∙ ap (λ o. option_and_then (λ n. option_map (ExecuteWatched file n) (cpu_of other)) o) is
    ∙ ap (λ o. option_map (ExecuteWatched file steps) o) also
asked-is _ _ (execute_text {words} {file} {value} {other} {steps} {fill} parts is also) =
    ap (λ o. option_and_then (job_with RunC) o) (parts-is words _ parts)
    ∙ ap (λ o. option_and_then (λ n. option_map (ExecuteText file n) (fill_of other)) o) is
    ∙ ap (λ o. option_map (ExecuteText file steps) o) also
asked-is _ _ (assemble {words} parts) = ap (λ o. option_and_then (job_with Asm) o) (parts-is words _ parts)
asked-is _ _ (try {words} {first} {second} {third} {seed} {size} {steps} parts is sized also) =
    ap (λ o. option_and_then (job_with Trial) o) (parts-is words _ parts)
    ∙ ap (λ o. trial_job o (size_of second) (steps_of (Some third))) is
    ∙ ap (λ o. trial_job (Some seed) o (steps_of (Some third))) sized
    ∙ ap (λ o. option_map (Try seed size) o) also

-- From the function to the relation.

word-same : (a b : List ℕ) → bytes_eq a b ≡ true → a ≡ b
word-same a b h = (bytes_eq-Decides a b).0 h

-- something was chosen by a test that holds, or by those after it
chosen : {A : Type 0} (a : Bool) (x v : A) (others : Option A) → (if a then Some x else others) ≡ Some v → ((a ≡ true) × (x ≡ v)) ⊎ (others ≡ Some v)
chosen true x v others h = inl (refl, cc)
chosen false x v others h = inr h

nothing-chosen : {A B : Type 0} (v : A) → None ≡ Some v → B
nothing-chosen v h = absurd (let f : ⊥ = cc in f)

option-from : (word : List ℕ) (name : OptionName) → option_of word ≡ Some name → word ≡ option_word name
option-from word name h = elim (chosen (bytes_eq word (codes "--steps")) Steps name _ h) [
  | inl a ↦ word-same word (codes "--steps") a.0 ∙ ap option_word a.1
  | inr i ↦ elim (chosen (bytes_eq word (codes "--fill")) Fill name _ i) [
    | inl a ↦ word-same word (codes "--fill") a.0 ∙ ap option_word a.1
    | inr j ↦ elim (chosen (bytes_eq word (codes "--cpu")) Cpu name _ j) [
      | inl a ↦ word-same word (codes "--cpu") a.0 ∙ ap option_word a.1
      | inr k ↦ nothing-chosen name k
    ]
  ]
]

command-from : (word : List ℕ) (c : Command) → command_of word ≡ Some c → word ≡ command_word c
command-from word c h = elim (chosen (bytes_eq word (codes "c")) (Makes Text) c _ h) [
  | inl a ↦ word-same word (codes "c") a.0 ∙ ap command_word a.1
  | inr i ↦ elim (chosen (bytes_eq word (codes "procs")) (Makes Procedures) c _ i) [
    | inl a ↦ word-same word (codes "procs") a.0 ∙ ap command_word a.1
    | inr j ↦ elim (chosen (bytes_eq word (codes "list")) (Makes Listing) c _ j) [
      | inl a ↦ word-same word (codes "list") a.0 ∙ ap command_word a.1
      | inr k ↦ elim (chosen (bytes_eq word (codes "run")) Run c _ k) [
        | inl a ↦ word-same word (codes "run") a.0 ∙ ap command_word a.1
        | inr l ↦ elim (chosen (bytes_eq word (codes "watch")) Watch c _ l) [
          | inl a ↦ word-same word (codes "watch") a.0 ∙ ap command_word a.1
          | inr m ↦ elim (chosen (bytes_eq word (codes "runc")) RunC c _ m) [
            | inl a ↦ word-same word (codes "runc") a.0 ∙ ap command_word a.1
            | inr n ↦ elim (chosen (bytes_eq word (codes "asm")) Asm c _ n) [
              | inl a ↦ word-same word (codes "asm") a.0 ∙ ap command_word a.1
              | inr o ↦ elim (chosen (bytes_eq word (codes "trial")) Trial c _ o) [
                | inl a ↦ word-same word (codes "trial") a.0 ∙ ap command_word a.1
                | inr p ↦ nothing-chosen c p
              ]
            ]
          ]
        ]
      ]
    ]
  ]
]

-- what a word of the kind is
Told : List ℕ → Kind → Type 0
Told word Positional = is_positional word ≡ true
Told word End = word ≡ codes "--"
Told word (Names name) = word ≡ option_word name
Told word (Gives name value) = word ≡ option_word name ++ (61 ∷ value)
Told word Unknown = Unit {0}

named-told : (word : List ℕ) (name : Option OptionName) → option_of word ≡ name → Told word (named name)
unfolding Told
named-told word None h = tt
named-told word (Some name) h = option-from word name h

given-told : (word : List ℕ) (name : Option OptionName) → option_of (before_first is_equals word) ≡ name → position_or_len is_equals word < length word → Told word
    (given name (after_first is_equals word))
unfolding Told
given-told word None h small = tt
given-told word (Some name) h small =
    let equals : get_or word (position_or_len is_equals word) 0 ≡ 61 = eqb-true (get_or word (position_or_len is_equals word) 0) 61 (passes_at_first is_equals word 0 small) in
    split_at_first is_equals word 0 small
    ∙ ap (λ l. l ++ (get_or word (position_or_len is_equals word) 0 ∷ after_first is_equals word)) (option-from (before_first is_equals word) name h)
    ∙ ap (λ c. option_word name ++ (c ∷ after_first is_equals word)) equals

option-told : (word : List ℕ) (b : Bool) → nat_lt (position_or_len is_equals word) (length word) ≡ b →
    Told word (if b then given (option_of (before_first is_equals word)) (after_first is_equals word) else named (option_of word))
option-told word true h = given-told word (option_of (before_first is_equals word)) refl (ltb-true (position_or_len is_equals word) (length word) h)
option-told word false h = named-told word (option_of word) refl

kind-chosen : (word : List ℕ) (p e : Bool) → is_positional word ≡ p → bytes_eq word (codes "--") ≡ e → Told word (if p then Positional else (if e then End else option_kind word))
unfolding Told
kind-chosen word true e hp he = hp
kind-chosen word false true hp he = word-same word (codes "--") he
kind-chosen word false false hp he = option-told word (nat_lt (position_or_len is_equals word) (length word)) refl

kind-told : (word : List ℕ) → Told word (kind_of word)
kind-told word = kind-chosen word (is_positional word) (bytes_eq word (codes "--")) refl refl

from-positional : (word : List ℕ) (words : List (List ℕ)) (parts : Parts) (others : Option Parts) → ((p : Parts) → others ≡ Some p → HasParts words p) → is_positional word ≡ true →
    option_map (with_word word) others ≡ Some parts → HasParts (word ∷ words) parts
from-positional word words parts None have p h = absurd (let f : ⊥ = cc in f)
from-positional word words parts (Some others) have p h =
    let same : with_word word others ≡ parts = cc in
    subst (λ q. HasParts (word ∷ words) q) same (positional_word p (have others refl))

fresh : (standing : Option (List ℕ)) (x y : Parts) → (if is_some standing then None else Some x) ≡ Some y → (standing ≡ None) × (x ≡ y)
fresh None x y h = (refl, cc)
fresh (Some value) x y h = absurd (let f : ⊥ = cc in f)

from-value : (name : OptionName) (value : List ℕ) (words all : List (List ℕ)) (parts : Parts) → ((p : Parts) → value_in name p ≡ None → HasParts words p → HasParts all (set_value name value p)) →
    (others : Option Parts) → ((p : Parts) → others ≡ Some p → HasParts words p) → with_value name value others ≡ Some parts → HasParts all parts
from-value name value words all parts more None have h = absurd (let f : ⊥ = cc in f)
from-value name value words all parts more (Some others) have h =
    let new = fresh (value_in name others) (set_value name value others) parts h in
    subst (λ q. HasParts all q) new.1 (more others new.0 (have others refl))

-- the words that are left have these parts, or have them with the option before them that waits for its value
Claim : Option OptionName → List (List ℕ) → Parts → Type 0
Claim None words parts = HasParts words parts
Claim (Some name) words parts = HasParts (option_word name ∷ words) parts

kind-from : (word : List ℕ) (words : List (List ℕ)) (parts : Parts) → ((waiting : Option OptionName) (p : Parts) → parts_after waiting words ≡ Some p → Claim waiting words p) →
    (kind : Kind) → Told word kind → by_kind word words kind ≡ Some parts → HasParts (word ∷ words) parts
unfolding Told Claim by_kind
kind-from word words parts have Positional told h = from-positional word words parts (parts_of words) (λ p e. have None p e) told h
kind-from word words parts have End told h =
    let same : only_positional words ≡ parts = cc in
    subst (λ q. HasParts (word ∷ words) q) same (subst (λ w. HasParts (w ∷ words) (only_positional words)) (sym told) end_of_options)
kind-from word words parts have (Names name) told h = subst (λ w. HasParts (w ∷ words) parts) (sym told) (have (Some name) parts h)
kind-from word words parts have (Gives name value) told h =
    subst (λ w. HasParts (w ∷ words) parts) (sym told)
    (from-value name value words ((option_word name ++ (61 ∷ value)) ∷ words) parts (λ p none r. option_in_one name value words p none r) (parts_of words) (λ p e. have None p e) h)
kind-from word words parts have Unknown told h = absurd (let f : ⊥ = cc in f)

words-from : (words : List (List ℕ)) (waiting : Option OptionName) (parts : Parts) → parts_after waiting words ≡ Some parts → Claim waiting words parts
unfolding Claim
words-from [] None parts h =
    let same : only_positional [] ≡ parts = cc in
    subst (λ q. HasParts [] q) same no_word
words-from [] (Some name) parts h = absurd (let f : ⊥ = cc in f)
words-from (word ∷ words) None parts h =
    kind-from word words parts (λ w p e. words-from words w p e) (kind_of word) (kind-told word) (sym (parts-at_kind word words (kind_of word) refl) ∙ h)
words-from (value ∷ words) (Some name) parts h =
    from-value name value words (option_word name ∷ (value ∷ words)) parts (λ p none r. option_in_two name value words p none r) (parts_of words) (λ p e. words-from words None p e) h

pub parts-from : (words : List (List ℕ)) (parts : Parts) → parts_of words ≡ Some parts → HasParts words parts
unfolding Claim
parts-from words parts h = words-from words None parts h

-- Jobs.

-- the option doesn't stand
without-from : (value : Option (List ℕ)) (job : Option Job) (j : Job) → without value job ≡ Some j
    → (value ≡ None) × (job ≡ Some j)
without-from None job j h = (refl, h)
without-from (Some value) job j h = absurd (let f : ⊥ = cc in f)

-- the one positional word, and three
one-from : (job : List ℕ → Option Job) (words : List (List ℕ)) (j : Job) → with_one job words ≡ Some j
    → (word : List ℕ) × (words ≡ word ∷ []) × (job word ≡ Some j)
one-from job [] j h = absurd (let f : ⊥ = cc in f)
one-from job (word ∷ []) j h = (word, refl, h)
one-from job (a ∷ (b ∷ ws)) j h = absurd (let f : ⊥ = cc in f)

record AreThree (job : List ℕ → List ℕ → List ℕ → Option Job) (words : List (List ℕ)) (j : Job) : Type 0 where
  first : List ℕ
  second : List ℕ
  third : List ℕ
  words_are : words ≡ first ∷ (second ∷ (third ∷ []))
  job_is : job first second third ≡ Some j

three-from : (job : List ℕ → List ℕ → List ℕ → Option Job) (words : List (List ℕ)) (j : Job)
    → with_three job words ≡ Some j → AreThree job words j
three-from job [] j h = absurd (let f : ⊥ = cc in f)
three-from job (a ∷ []) j h = absurd (let f : ⊥ = cc in f)
three-from job (a ∷ (b ∷ [])) j h = absurd (let f : ⊥ = cc in f)
three-from job (a ∷ (b ∷ (c ∷ []))) j h =
    record { first = a; second = b; third = c; words_are = refl; job_is = h }
three-from job (a ∷ (b ∷ (c ∷ (d ∷ ws)))) j h = absurd (let f : ⊥ = cc in f)

-- parts with these fields
parts-with : (words : List (List ℕ)) (parts : Parts) (positional : List (List ℕ)) (steps fill cpu : Option (List ℕ))
    → parts.positional ≡ positional → parts.steps ≡ steps → parts.fill ≡ fill → parts.cpu ≡ cpu → HasParts words parts
    → HasParts words (record { positional = positional; steps = steps; fill = fill; cpu = cpu })
parts-with words parts positional steps fill cpu p s f c has =
    let first = subst (λ x. HasParts words (record
    { positional = x; steps = parts.steps; fill = parts.fill; cpu = parts.cpu })) p has in
    let second = subst (λ x. HasParts words (record
    { positional = positional; steps = x; fill = parts.fill; cpu = parts.cpu })) s first in
    let third = subst (λ x. HasParts words (record
    { positional = positional; steps = steps; fill = x; cpu = parts.cpu })) f second in
    subst (λ x. HasParts words (record { positional = positional; steps = steps; fill = fill; cpu = x })) c third

make-asked : (words : List (List ℕ)) (job : Job) (product : Product) (file : List ℕ) (value : Option (List ℕ))
    (cpu : Option Processor) → cpu_of value ≡ cpu
    → HasParts words (record { positional = file ∷ []; steps = None; fill = None; cpu = value })
    → option_map (Make product file) cpu ≡ Some job → AskFor (command_word (Makes product) ∷ words) job
make-asked words job product file value None is has h = absurd (let f : ⊥ = cc in f)
make-asked words job product file value (Some cpu) is has h =
    let same : Make product file cpu ≡ job = cc in
    subst (λ j. AskFor (command_word (Makes product) ∷ words) j) same (make has is)

run-asked : (words : List (List ℕ)) (job : Job) (file : List ℕ) (value other : Option (List ℕ)) (steps : Option ℕ)
    (cpu : Option Processor) → steps_of value ≡ steps → cpu_of other ≡ cpu
    → HasParts words (record { positional = file ∷ []; steps = value; fill = None; cpu = other })
    → run_job Execute steps cpu file ≡ Some job → AskFor (command_word Run ∷ words) job
run-asked words job file value other None cpu is also has h = absurd (let f : ⊥ = cc in f)
run-asked words job file value other (Some n) None is also has h = absurd (let f : ⊥ = cc in f)
run-asked words job file value other (Some n) (Some cpu) is also has h =
    let same : Execute file n cpu ≡ job = cc in
    subst (λ j. AskFor (command_word Run ∷ words) j) same (execute has is also)

watch-asked : (words : List (List ℕ)) (job : Job) (file : List ℕ) (value other : Option (List ℕ)) (steps : Option ℕ)
    (cpu : Option Processor) → steps_of value ≡ steps → cpu_of other ≡ cpu
    → HasParts words (record { positional = file ∷ []; steps = value; fill = None; cpu = other })
    → run_job ExecuteWatched steps cpu file ≡ Some job → AskFor (command_word Watch ∷ words) job
watch-asked words job file value other None cpu is also has h = absurd (let f : ⊥ = cc in f)
watch-asked words job file value other (Some n) None is also has h = absurd (let f : ⊥ = cc in f)
watch-asked words job file value other (Some n) (Some cpu) is also has h =
    let same : ExecuteWatched file n cpu ≡ job = cc in
    subst (λ j. AskFor (command_word Watch ∷ words) j) same (execute_watched has is also)

text_run-asked : (words : List (List ℕ)) (job : Job) (file : List ℕ) (value other : Option (List ℕ))
    (steps fill : Option ℕ) → steps_of value ≡ steps → fill_of other ≡ fill
    → HasParts words (record { positional = file ∷ []; steps = value; fill = other; cpu = None })
    → text_job steps fill file ≡ Some job → AskFor (command_word RunC ∷ words) job
text_run-asked words job file value other None fill is also has h = absurd (let f : ⊥ = cc in f)
text_run-asked words job file value other (Some n) None is also has h = absurd (let f : ⊥ = cc in f)
text_run-asked words job file value other (Some n) (Some w) is also has h =
    let same : ExecuteText file n w ≡ job = cc in
    subst (λ j. AskFor (command_word RunC ∷ words) j) same (execute_text has is also)

assembly-asked : (words : List (List ℕ)) (job : Job) (file : List ℕ) → HasParts words (only_positional (file ∷ []))
    → Some (Assemble file) ≡ Some job → AskFor (command_word Asm ∷ words) job
assembly-asked words job file has h =
    let same : Assemble file ≡ job = cc in
    subst (λ j. AskFor (command_word Asm ∷ words) j) same (assemble has)

trial-asked : (words : List (List ℕ)) (job : Job) (first second third : List ℕ) (seed size steps : Option ℕ)
    → seed_of first ≡ seed → size_of second ≡ size → steps_of (Some third) ≡ steps
    → HasParts words (record { positional = first ∷ (second ∷ (third ∷ [])); steps = None; fill = None; cpu = None })
    → trial_job seed size steps ≡ Some job → AskFor (command_word Trial ∷ words) job
trial-asked words job first second third None size steps is sized also has h = absurd (let f : ⊥ = cc in f)
trial-asked words job first second third (Some s) None steps is sized also has h = absurd (let f : ⊥ = cc in f)
trial-asked words job first second third (Some s) (Some n) None is sized also has h = absurd (let f : ⊥ = cc in f)
trial-asked words job first second third (Some s) (Some n) (Some k) is sized also has h =
    let same : Try s n k ≡ job = cc in
    subst (λ j. AskFor (command_word Trial ∷ words) j) same (try has is sized also)

job-asked : (words : List (List ℕ)) (job : Job) (c : Command) (parts : Parts) → HasParts words parts
    → job_with c parts ≡ Some job → AskFor (command_word c ∷ words) job
job-asked words job (Makes product) parts has h =
    let a = without-from parts.steps _ job h in
    let b = without-from parts.fill _ job a.1 in
    let one = one-from _ parts.positional job b.1 in
    make-asked words job product one.0 parts.cpu (cpu_of parts.cpu) refl
    (parts-with words parts (one.0 ∷ []) None None parts.cpu one.1 a.0 b.0 refl has) one.2
job-asked words job Run parts has h =
    let b = without-from parts.fill _ job h in
    let one = one-from _ parts.positional job b.1 in
    run-asked words job one.0 parts.steps parts.cpu (steps_of parts.steps) (cpu_of parts.cpu) refl refl
    (parts-with words parts (one.0 ∷ []) parts.steps None parts.cpu one.1 refl b.0 refl has) one.2
job-asked words job Watch parts has h =
    let b = without-from parts.fill _ job h in
    let one = one-from _ parts.positional job b.1 in
    watch-asked words job one.0 parts.steps parts.cpu (steps_of parts.steps) (cpu_of parts.cpu) refl refl
    (parts-with words parts (one.0 ∷ []) parts.steps None parts.cpu one.1 refl b.0 refl has) one.2
job-asked words job RunC parts has h =
    let d = without-from parts.cpu _ job h in
    let one = one-from _ parts.positional job d.1 in
    text_run-asked words job one.0 parts.steps parts.fill (steps_of parts.steps) (fill_of parts.fill) refl refl
    (parts-with words parts (one.0 ∷ []) parts.steps parts.fill None one.1 refl refl d.0 has) one.2
job-asked words job Asm parts has h =
    let a = without-from parts.steps _ job h in
    let b = without-from parts.fill _ job a.1 in
    let d = without-from parts.cpu _ job b.1 in
    let one = one-from _ parts.positional job d.1 in
    assembly-asked words job one.0 (parts-with words parts (one.0 ∷ []) None None None one.1 a.0 b.0 d.0 has) one.2
job-asked words job Trial parts has h =
    let a = without-from parts.steps _ job h in
    let b = without-from parts.fill _ job a.1 in
    let d = without-from parts.cpu _ job b.1 in
    let t = three-from _ parts.positional job d.1 in
    trial-asked words job t.first t.second t.third (seed_of t.first) (size_of t.second) (steps_of (Some t.third))
    refl refl refl
    (parts-with words parts (t.first ∷ (t.second ∷ (t.third ∷ []))) None None None t.words_are a.0 b.0 d.0 has)
    t.job_is

parts-asked : (words : List (List ℕ)) (job : Job) (c : Command) (parts : Option Parts) → ((p : Parts) → parts ≡ Some p → HasParts words p) →
    option_and_then (job_with c) parts ≡ Some job → AskFor (command_word c ∷ words) job
parts-asked words job c None have h = absurd (let f : ⊥ = cc in f)
parts-asked words job c (Some parts) have h = job-asked words job c parts (have parts refl) h

command-asked : (word : List ℕ) (words : List (List ℕ)) (job : Job) (command : Option Command) → command_of word ≡ command →
    option_and_then (λ c. option_and_then (job_with c) (parts_of words)) command ≡ Some job → AskFor (word ∷ words) job
command-asked word words job None is h = absurd (let f : ⊥ = cc in f)
command-asked word words job (Some c) is h =
    subst (λ w. AskFor (w ∷ words) job) (sym (command-from word c is)) (parts-asked words job c (parts_of words) (λ p e. parts-from words p e) h)

pub asked-from : (words : List (List ℕ)) (job : Job) → job_of words ≡ Some job → AskFor words job
unfolding job_of
asked-from [] job h = absurd (let f : ⊥ = cc in f)
asked-from (word ∷ words) job h = command-asked word words job (command_of word) refl h
