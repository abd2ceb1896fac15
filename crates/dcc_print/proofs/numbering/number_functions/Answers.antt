use Rattle.std.proofs.Common.{◌≡◌, ◌+◌, ◌<◌, ◌≤◌, ◌∷◌, ◌++◌, [], true, map, length, get_or, set, take, drop, sym, ap, ap₂, ◌∙◌, subst, arith, append_assoc}
use Rattle.std.specs.List.{list_all}
use Rattle.std.proofs.lemmas.Bool.{and_parts}
use Rattle.std.proofs.lemmas.List.{append-nil, map-append, at_drop_more, take_more_set, drop-set-lt, take_all, drop_all}
use Rattle.dcc_c.specs.Tree.{Function}
use Rattle.dcc_c.specs.Parts.{stmts_in}
use Rattle.dcc_c.specs.Numbered.{numbered_function, numbered_functions}
use Rattle.dcc_c.specs.Views.{function_of}
use Rattle.dcc_print.specs.Unbroken.{are_unbroken}
use Rattle.dcc_print.proofs.numbering.number_functions.Goals as goal

pub loop-i-preserved : goal.loop-i-preserved
loop-i-preserved c =
    let functions = c.loop-i.functions in
    let i = c.loop-i.i in
    let within : i < length functions = omega arith in
    let f = get_or functions i c.index-functions-i.result in
    let rest = map function_of (drop (i + 1) functions) in
    let is : map function_of (drop i functions) ≡ function_of f ∷ rest = ap (map function_of) (at_drop_more (λ xs. xs) functions i c.index-functions-i.result within) in
    let new = c.number_function.new.f in
    let next = c.in_ok-next.next in
    let at = c.loop-i.next in
    let following : map function_of (drop (i + 1) (set functions i new)) ≡ rest = ap (map function_of) (drop-set-lt (i + 1) functions i new (omega arith)) in
    let front : map function_of (take (i + 1) (set functions i new)) ≡ map function_of (take i functions) ++ function_of new ∷ [] =
    ap (map function_of) (take_more_set functions i new within) ∙ map-append function_of (take i functions) (new ∷ []) in
    let parts : list_all (λ g. are_unbroken (stmts_in g.body)) (map function_of c.args.functions.now) ≡ true
    → (are_unbroken (stmts_in (function_of f).body) ≡ true) × (list_all (λ g. are_unbroken (stmts_in g.body)) rest ≡ true) =
    λ u. and_parts (are_unbroken (stmts_in (function_of f).body)) (list_all (λ g. are_unbroken (stmts_in g.body)) rest)
    (subst (λ gs. list_all (λ g. are_unbroken (stmts_in g.body)) gs ≡ true) is (c.loop-i.invariant.unbroken u)) in
    record {
      unbroken = λ u. ap (list_all (λ g. are_unbroken (stmts_in g.body))) following ∙ (parts u).1;
      numbered = λ u.
          let here : function_of new ≡ numbered_function at (function_of f) = c.in_ok-next.ensures.numbered (parts u).0 in
          let line : next ≡ (numbered_function at (function_of f)).last + 1 = c.in_ok-next.ensures.line ∙ ap (λ (g : Function). g.last + 1) here in
          ap₂ (λ a b. a ++ numbered_functions next b) front following
          ∙ append_assoc (map function_of (take i functions)) (function_of new ∷ []) (numbered_functions next rest)
          ∙ ap₂ (λ g n. map function_of (take i functions) ++ g ∷ numbered_functions n rest) here line
          ∙ ap (λ gs. map function_of (take i functions) ++ numbered_functions at gs) (sym is)
          ∙ c.loop-i.invariant.numbered u;
    }

pub returns : goal.returns
returns c u =
    let functions = c.loop-i.functions in
    let i = c.loop-i.i in
    let over : length functions ≤ i = omega arith in
    sym (append-nil (map function_of functions))
    ∙ ap (λ fs. map function_of fs ++ []) (sym (take_all i functions over))
    ∙ ap (λ fs. map function_of (take i functions) ++ numbered_functions c.loop-i.next (map function_of fs)) (sym (drop_all i functions over))
    ∙ c.loop-i.invariant.numbered u
