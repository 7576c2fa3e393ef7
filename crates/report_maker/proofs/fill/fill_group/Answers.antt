use Rattle.report_maker.proofs.fill.fill_group.Goals as goal
