-- What files and a sink in memory tell: all.
use Rattle.std.specs.Prelude.{◌≡◌, List, []}
use Rattle.std.specs.declared.option.Option.TheVariants.{Some}
use Rattle.symk_io.specs.View.{FilesView, SinkView}
use Rattle.symk_io.specs.Memory.{text_in, shelf_left, names_of}
use Rattle.symk_io.specs.declared.mem_files.MemFile.{MemFile}
use Rattle.symk_io.specs.declared.memory.MemFiles.{MemFiles}
use Rattle.symk_io.specs.declared.memory.MemSink.{MemSink}

abbrev pub files_view : MemFiles → FilesView
files_view m = record { told = Some (record { text = text_in m.shelf.files.items; left = shelf_left m.shelf; opened = names_of m.shelf }); faults = m.failing.faults }

abbrev pub sink_view : MemSink → SinkView
sink_view m = record { taken = Some m.bytes.items; flushed = Some m.flushed; flushes = Some m.flushes; faults = m.failing.faults }

-- the texts of these files, nothing opened, no fault
abbrev pub StartsWith : List MemFile → FilesView → Type 0
StartsWith files view = view ≡ record { told = Some (record { text = text_in files; left = []; opened = [] }); faults = 0 }
