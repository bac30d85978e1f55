-- Where the journals of worked inputs begin.
use Rattle.std.proofs.Common.{[], ◌∷◌, refl}
use Rattle.std.specs.Prelude.{codes}
use Rattle.audit_run.specs.Cuts.{IsCut, JournalsFrom, NoJournals}

pub after_script : IsCut (codes "table 00\njournals 1\njournal") (codes "table 00\njournals 1\n") (codes "journal")
after_script =
    JournalsFrom (codes "table 00" ∷ codes "journals 1" ∷ []) (codes "journal") (record { one = refl; other = refl }, (record { one = refl; other = refl }, tt)) refl refl

pub first_field : IsCut (codes "open journal\n journal\njournal  x\nopen 0\n") (codes "open journal\n journal\n") (codes "journal  x\nopen 0\n")
first_field =
    JournalsFrom (codes "open journal" ∷ codes " journal" ∷ []) (codes "journal  x\nopen 0\n") (record { one = refl; other = refl }, (record { one = refl; other = refl }, tt)) refl refl

pub no_script : IsCut (codes "journal 0\njournal 1\n") [] (codes "journal 0\njournal 1\n")
no_script = JournalsFrom [] (codes "journal 0\njournal 1\n") tt refl refl

pub no_journals : IsCut (codes "table 00\nopen 0") (codes "table 00\nopen 0") []
no_journals = NoJournals (record { one = refl; other = refl }, (record { one = refl; other = refl }, tt))

pub nothing : IsCut [] [] []
nothing = NoJournals (record { one = refl; other = refl }, tt)
