-- Parts of what is read, by what stands before them.
use Rattle.std.specs.Prelude.{ℕ, codes, Bool, ◌||◌, if◌then◌else◌, List, ◌++◌}
use Rattle.dcc_c.specs.declared.syntax.Class.{Class}
use Rattle.dcc_c.specs.declared.syntax.Class.TheVariants.{Plain, Auto}
use Rattle.dcc_c.specs.Partial.{NumberAt}
use Rattle.dcc_c.specs.Reading.{Reader, Got, got, next_token, skip, sees_word, begins_type, take_mark, take_plain}
use Rattle.dcc_c.specs.ReadingStatements.{list_of, more_values}

-- a list of what was read before, and of what is read after it
abbrev pub before_list : {A : Type 0} → List A → Got (List A) → Got (List A)
before_list before others = got (before ++ others.value) others.following

-- initial values after an opening brace, which stands here
abbrev pub values_in_braces : ℕ → Reader → Got (List NumberAt)
values_in_braces calls r =
    let first = take_plain (skip r) in
    let others = more_values calls first.following in
    got (list_of first.value ++ others.value) (take_mark (codes "}") others.following)

-- the word `auto`, or nothing
abbrev pub read_auto : Reader → Got Class
read_auto r = if sees_word (codes "auto") r then got Auto (skip r) else got Plain r

-- a local variable begins here
abbrev pub begins_local : Reader → Bool
begins_local r = sees_word (codes "auto") r || begins_type (next_token r)
