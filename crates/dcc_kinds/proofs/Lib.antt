mod LocationLaws
mod SummaryLaws
mod BackLaws
mod CallLaws
mod ReusedLaws
mod KindLaws
