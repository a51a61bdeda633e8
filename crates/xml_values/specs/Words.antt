-- What is wanted where an input is refused, in words.
use Rattle.std.specs.Prelude.{ℕ, List, codes}
use Rattle.xml_values.specs.declared.error.Wanted.{Wanted}
use Rattle.xml_values.specs.declared.error.Wanted.TheVariants as wanted

abbrev pub wanted_text : Wanted → List ℕ
wanted_text wanted.Utf8 = codes "UTF-8"
wanted_text wanted.Characters = codes "characters of XML"
wanted_text wanted.Element = codes "an element"
wanted_text wanted.End = codes "nothing after the element"
wanted_text wanted.NoDocumentType = codes "no document type"
wanted_text wanted.Comment = codes "a comment that ends, without -- in it"
wanted_text wanted.SectionEnd = codes "the end of this section or instruction"
wanted_text wanted.TagEnd = codes "an attribute after a blank, > or />"
wanted_text wanted.Value = codes "a value in quotes, without <"
wanted_text wanted.OtherName = codes "an attribute of another name"
wanted_text wanted.FewerNames = codes "at most 64 names in an element"
wanted_text wanted.Reference = codes "&lt; &gt; &amp; &quot; &apos; or the number of a character"
wanted_text wanted.NoSectionEnd = codes "no ]]> in a text"
wanted_text wanted.EndTag = codes "the end tag of the element that is open"
wanted_text wanted.LessDepth = codes "elements that nest at most 127 deep"
