-- How a report is told.
use Rattle.std.specs.Prelude.{ℕ, List, ◌++◌, codes}
use Rattle.std.specs.Fmt.{decimal}
use Rattle.std.specs.List.{flat_map}
use Rattle.dcc_spelled.specs.Hex.{hex_word}
use Rattle.dcc_map.specs.declared.report.End.{End}
use Rattle.dcc_map.specs.declared.report.End.TheVariants.{Running, Exit, Divide, Outside, Stuck}
use Rattle.dcc_map.specs.declared.report.Pair.{Pair}
use Rattle.dcc_map.specs.declared.report.Report.{Report}

-- how a run has ended
abbrev pub end_words : End → List ℕ
end_words Running = codes "running"
end_words (Exit code) = codes "exit " ++ decimal code
end_words Divide = codes "divide"
end_words (Outside at) = codes "outside " ++ hex_word at
end_words (Stuck line) = codes "stuck " ++ decimal line

-- a line, an address, and how often they stand beside each other
abbrev pub pair_line : Pair → List ℕ
pair_line pair =
    decimal pair.line ++ (codes " " ++ (hex_word pair.at ++ (codes " " ++ (decimal pair.count ++ codes "\n"))))

-- all lines: the bytes, the pairs, and both ends
abbrev pub report_lines : Report → List ℕ
report_lines report =
    codes "bytes " ++ (decimal report.bytes ++ (codes "\n" ++ (flat_map pair_line report.pairs.items
    ++ (codes "machine " ++ (end_words report.machine ++ (codes "\nc " ++ (end_words report.text ++ codes "\n")))))))
