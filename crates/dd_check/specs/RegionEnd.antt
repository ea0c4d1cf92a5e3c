-- The draft as it was before the region was taken out of it.
use Rattle.std.specs.Prelude.{Some}
use Rattle.dd_check.specs.declared.draft.Draft.{Draft}
use Rattle.dd_check.specs.declared.opened.Opened.{Opened}

abbrev pub reopened : Opened → Draft → Draft
reopened region d = record d { opened = Some region }
