use Rattle.dcc_graph_rows.proofs.flows.places_flow.Given as goal

abbrev pub ghosts-places_after : goal.ghosts-places_after
ghosts-places_after g a = record { name = a.blank.name; parts = a.blank.parts }
