-- The tree after changes of names of which none is at fault has a text.
use Rattle.std.proofs.Common.{◌≡◌, true, [], map, Option, Some, None, refl, sym, ap, ◌∙◌, subst, inl, inr, append_assoc}
use Rattle.std.specs.Prelude.{◌⊎◌}
use Rattle.dcc_c.specs.Dos.{dos_names}
use Rattle.dcc_c.specs.Grammar.{is_name}
use Rattle.dcc_c.specs.Rules.{names_of, known_names, own_variables, IsAllowed}
use Rattle.dcc_c.specs.Token.{same_bytes}
use Rattle.dcc_c.specs.Tree.{Word, Global, Variable, Function, Tree}
use Rattle.dcc_c.proofs.PrintLaws.{writable_stands}
use Rattle.dcc_c.proofs.Writable.{is_writable_global, is_writable_function, IsWritable}
use Rattle.dcc_c.proofs.WritableTree.{stands_writable}
use Rattle.dcc_renaming.specs.Alike.{RenamedTreesHaveTexts}
use Rattle.dcc_renaming.specs.Changes.{in_file}
use Rattle.dcc_renaming.specs.Faults.{own, owns, outer_names, name_after}
use Rattle.dcc_renaming.specs.Renamed.{changed, now_or, outer_now, own_now, renamed_global, renamed_function, renamed_by}
use Rattle.dcc_renaming.proofs.AlikeRules.{tree-allowed}
use Rattle.dcc_renaming.proofs.Apart.{own-name, dos-name, own-outer, own-dos}
use Rattle.dcc_renaming.proofs.CleanRuns.{allowed-in, own-in, tree-named, tree-same}
use Rattle.dcc_renaming.proofs.Extended.{all_outer, all_own, outer-at, dos-at, own-at, tests-same, are-names}
use Rattle.dcc_renaming.proofs.Free.{IsFree, changes-free, now-name}
use Rattle.dcc_renaming.proofs.Members.{In, in-cases, in-map, differ-apart}
use Rattle.dcc_renaming.proofs.Writes.{all-kept, function-kept, global-kept}

module _ (new : Word → Option Word) (tree : Tree) (writable : IsWritable tree) (free : (thing now : Word) → new thing ≡ Some now → IsFree new tree thing now) where
  -- Names stay names.

  outer-name : (w : Word) → is_name w ≡ true → is_name (outer_now new w) ≡ true
  outer-name w is = cases (new w) refl where
    cases : (o : Option Word) → new w ≡ o → is_name (outer_now new w) ≡ true
    cases None e = ap is_name (ap (λ o. now_or o w) e) ∙ is
    cases (Some now) e = ap is_name (ap (λ o. now_or o w) e) ∙ now-name new tree w now (free w now e)

  own-is_name : (f w : Word) → is_name w ≡ true → is_name (own_now new f w) ≡ true
  own-is_name f w is = cases (new (in_file (Some f) w)) refl where
    cases : (o : Option Word) → new (in_file (Some f) w) ≡ o → is_name (own_now new f w) ≡ true
    cases None e = ap is_name (ap (λ o. now_or o (outer_now new w)) e) ∙ outer-name w is
    cases (Some now) e = ap is_name (ap (λ o. now_or o (outer_now new w)) e) ∙ now-name new tree (in_file (Some f) w) now (free (in_file (Some f) w) now e)

  -- Names of a function's own are kept apart from those that the whole text knows.

  known-cases : (w : Word) → In w (known_names tree) → In w (outer_names tree) ⊎ In w dos_names
  known-cases w is =
      in-cases w (outer_names tree) dos_names
      (subst (In w) (sym (append_assoc (map (λ (g : Global). g.name) tree.globals) (map (λ (f : Function). f.name) tree.functions) dos_names)) is)

  own-apart : (f : Function) → In f tree.functions → (x y : Word) → In x (names_of (own_variables f)) → In y (known_names tree) →
      same_bytes (all_own new tree (tree-named tree writable) free f.name x) (all_outer new tree (tree-named tree writable) free y) ≡ same_bytes x y
  own-apart f is x y has known =
      let named = tree-named tree writable in
      let v = in-map (λ (u : Variable). u.name) (own_variables f) x has in
      let inner : In (own f.name x) (owns tree) = subst (λ w. In (own f.name w) (owns tree)) (sym v.is) (own-in tree f v.from is v.has) in
      let here : all_own new tree named free f.name x ≡ name_after new (own f.name x) = own-at new tree named free f.name x inner ∙ own-name new tree named free f.name x inner in
      tests-same x y (all_own new tree named free f.name x) (all_outer new tree named free y)
      (λ e. absurd (differ-apart (names_of (own_variables f)) (known_names tree) x (allowed-in tree tree.functions f writable.allowed.functions is).own_names has
      (subst (λ w. In w (known_names tree)) (sym e) known)))
      (λ e. elim (known-cases y known) [
        | inl outer ↦ own-outer new tree named free f.name x y inner outer (sym here ∙ e ∙ outer-at new tree named free y outer)
        | inr dos ↦ own-dos new tree named free f.name x y inner dos (sym here ∙ e ∙ dos-at new tree named free y dos ∙ dos-name new tree named free y dos)
      ])

  pub clean-writable : IsWritable (renamed_by new tree)
  clean-writable = record {
    version = writable.version;
    globals = all-kept is_writable_global is_writable_global (renamed_global (outer_now new)) (λ g. global-kept (outer_now new) outer-name (outer_now new) outer-name g) tree.globals writable.globals;
    functions = all-kept is_writable_function is_writable_function (renamed_function new)
        (λ f. function-kept (own_now new f.name) (own-is_name f.name) (outer_now new) outer-name f) tree.functions writable.functions;
    allowed = subst IsAllowed (tree-same new tree writable free)
        (tree-allowed (all_outer new tree (tree-named tree writable) free) (all_own new tree (tree-named tree writable) free) tree
        (are-names new tree (tree-named tree writable) free) own-apart writable.allowed);
  }

pub renamed-texts : RenamedTreesHaveTexts
renamed-texts text tree is changes formed none =
    writable_stands (renamed_by (changed changes) tree)
    (clean-writable (changed changes) tree (stands_writable text tree is) (changes-free (changed changes) tree changes [] formed none))
