use Rattle.std.proofs.Common.{◌≡◌, true, ◌++◌, map, take, drop}
use Rattle.std.specs.List.{list_all}
use Rattle.dcc_c.specs.Parts.{stmts_in}
use Rattle.dcc_c.specs.Numbered.{numbered_functions}
use Rattle.dcc_c.specs.Views.{function_of}
use Rattle.dcc_print.specs.Unbroken.{are_unbroken}
use Rattle.dcc_print.proofs.numbering.number_functions.Given as goal

-- the functions so far are counted, and with those that are left the count is whole
abbrev pub invariant-loop-i : goal.invariant-loop-i
invariant-loop-i l = record {
  unbroken : list_all (λ f. are_unbroken (stmts_in f.body)) (map function_of l.initial.functions) ≡ true
      → list_all (λ f. are_unbroken (stmts_in f.body)) (map function_of (drop l.i l.functions)) ≡ true;
  numbered : list_all (λ f. are_unbroken (stmts_in f.body)) (map function_of l.initial.functions) ≡ true →
      map function_of (take l.i l.functions) ++ numbered_functions l.next (map function_of (drop l.i l.functions))
      ≡ numbered_functions l.initial.next (map function_of l.initial.functions);
}
