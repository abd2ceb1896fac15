use Rattle.std.proofs.Common.{IfOk, subst}
use Rattle.dcc_c.specs.Text.{StandsFor}
use Rattle.dcc_c.specs.Views.{tree_of}
use Rattle.dcc_parse.proofs.ParseRules.{stands-alone}
use Rattle.dcc_parse.proofs.parser.parse.Goals as goal

pub returns-clause-alone : goal.returns-clause-alone
returns-clause-alone c =
    stands-alone c.args.bytes.now.items c.parse_bytes.result
    (subst (λ bytes. IfOk c.parse_bytes.result (λ unit. StandsFor bytes (tree_of unit))) c.deref.ensures.value c.parse_bytes.ensures.stands)
