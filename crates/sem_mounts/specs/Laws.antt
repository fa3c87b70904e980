-- Small catalogues, proved as the contract of a function of the module `laws`.
use Rattle.std.specs.Prelude.{◌≡◌, [], ◌∷◌, codes, Ok, Err}
use Rattle.hac_model.specs.Spaces.Catalogue.{catalogue}

-- documents stand in the order of their names, a blank line has none, a tab of a text is a byte of
-- it, and the last line
-- may have no end
abbrev pub FirstCatalogues : Type 0
FirstCatalogues =
    (catalogue [] ≡ Ok [])
    × (catalogue (codes "b\tred pear\n  \na\tplum\\npie\n")
    ≡ Ok ((codes "a", codes "plum\npie") ∷ (codes "b", codes "red pear") ∷ []))
    × (catalogue (codes "a\tx\ty") ≡ Ok ((codes "a", codes "x\ty") ∷ []))
    × (catalogue (codes "a\t") ≡ Ok ((codes "a", []) ∷ []))

-- bad lines: a name that was there, a bad escape, a name with a slash, no name, no tab, and a line
-- that begins with `#`
abbrev pub BadLines : Type 0
BadLines =
    (catalogue (codes "a\tx\n\na\ty\nb") ≡ Err 3) × (catalogue (codes "a\tx\nb\t\\q\n") ≡ Err 2)
    × (catalogue (codes "a/b\tx\n") ≡ Err 1) × (catalogue (codes "\tx\n") ≡ Err 1)
    × (catalogue (codes "a\tx\n\nb\n") ≡ Err 3)
    × (catalogue (codes "# a\n") ≡ Err 1)
