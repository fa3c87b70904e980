-- What has no text.
use Rattle.std.proofs.Common.{◌≡◌, false, refl}
use Rattle.std.specs.Prelude.{Option, None, Some, option_and_then}
use Rattle.std.specs.Option.{option_map_or}
use Rattle.hac_model.specs.Tree.{is_file, text_in}
use Rattle.hac_model.specs.declared.states.Body.{Body}
use Rattle.hac_model.specs.declared.states.Body.TheVariants.{Document, Dir, File, Mount, Semantic, Symlink}

-- what is no file has no text
pub no-text : (o : Option Body) → option_map_or is_file o false ≡ false → option_and_then text_in o ≡ None
no-text None other = refl
no-text (Some (File text dirty shown)) other = absurd cc
no-text (Some Dir) other = refl
no-text (Some (Symlink target)) other = refl
no-text (Some (Semantic query permanent prohibited)) other = refl
no-text (Some (Mount space answers)) other = refl
no-text (Some Document) other = refl
