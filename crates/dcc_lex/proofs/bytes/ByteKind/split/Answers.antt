use Rattle.std.proofs.Common.{◌≤◌, length, subst, sym}
use Rattle.std.proofs.lemmas.List.Sums.{prefix_len-le-length}
use Rattle.dcc_lex.specs.ByteViews.{has_kind}
use Rattle.dcc_lex.proofs.Runs.{run_front, run_back, run_all}
use Rattle.dcc_lex.proofs.bytes.ByteKind.split.Goals as goal

pub split_at-requires : goal.split_at-requires
split_at-requires c =
    subst (λ at. at ≤ length c.args.bytes.now) (sym c.count.ensures) (prefix_len-le-length (has_kind c.args.self) c.args.bytes.now)

pub returns : goal.returns
returns c = record {
  front = run_front (has_kind c.args.self) c.args.bytes.now c.count.result c.count.ensures c.split_at.ensures.front;
  back = run_back (has_kind c.args.self) c.args.bytes.now c.count.result c.count.ensures c.split_at.ensures.back;
  all = run_all (has_kind c.args.self) c.args.bytes.now c.count.result c.count.ensures c.split_at.ensures.front;
}
