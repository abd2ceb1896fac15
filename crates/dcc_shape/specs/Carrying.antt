-- What the code knows of the names that carry an address. No public contract rests on it.
use Rattle.std.specs.Prelude.{◌≡◌, ℕ, Bool, true, ◌&&◌, ◌||◌, not, List, count_by, string_bytes}
use Rattle.std.specs.List.{list_all}
use Rattle.std.specs.BTreeSet as set
use Rattle.std.specs.Cmp.Lexicographic.{slice_cmp}
use Rattle.std.specs.Ordering.{nat_cmp}
use denote.Ref.{Bor}
use Rattle.dcc_c.specs.declared.syntax.Var.{Var}
use Rattle.dcc_c.specs.Token.{same_bytes}
use Rattle.dcc_c.specs.Tree.{Word, Stmt}
use Rattle.dcc_c.specs.Views.{stmt_of}
use Rattle.dcc_shape.specs.declared.seen.Seen.{Seen as SeenOf}
use Rattle.dcc_shape.specs.Carried.{sends, goes_to, keeps, is_of_class}

-- a set of words has the word
abbrev pub holds : set.BTreeSet (Bor (List ℕ)) → Word → Bool
holds words word = set.contains_by (λ k. slice_cmp nat_cmp word k.now) words

-- each of the few words is one of the many
abbrev pub Within : (Word → Bool) → (Word → Bool) → Type 0
Within few many = (word : Word) → few word ≡ true → many word ≡ true

-- a statement that sends what the names carry to a variable in no memory sends it to one of them
abbrev pub settles : (Word → Bool) → (Word → Bool) → Stmt → Bool
settles unplaced names stmt = not (sends names stmt && goes_to unplaced stmt) || goes_to names stmt

-- each of the statements does
abbrev pub all_settle : (Word → Bool) → (Word → Bool) → List SeenOf → Bool
all_settle unplaced names list = list_all (λ s. settles unplaced names (stmt_of s.stmt.now)) list

-- each of the statements keeps what the names carry among them
abbrev pub all_keep : (Word → Bool) → (Word → Bool) → List SeenOf → Bool
all_keep unplaced names list = list_all (λ s. keeps unplaced names (stmt_of s.stmt.now)) list

-- how many of the statements assign to none of the names
abbrev pub strangers : (Word → Bool) → List SeenOf → ℕ
strangers names list = count_by (λ s. not (goes_to names (stmt_of s.stmt.now))) list

-- the variable has the name and is `auto`, or isn't
abbrev pub is_such : Bool → Word → Var → Bool
is_such auto word v = same_bytes word (string_bytes v.name) && is_of_class auto v.class
